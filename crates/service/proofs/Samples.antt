-- How a recorder's channels change over a run of commands.
use Rattle.std.proofs.Common.{◌≡◌, ◌≢◌, ℕ, ◌+◌, ◌<◌, List, [], ◌∷◌, ◌++◌, length, get_or, take, Some, None, Option, sym, refl, ap, ◌∙◌, inl, inr, arith}
use Rattle.std.proofs.lemmas.List.{append_assoc, append-nil, get_or-replicate, get_or-set_same, length_push, length-take, take_all, take-append-le}
use Rattle.std.proofs.lemmas.Grind.{common_steps}
use Rattle.std.proofs.lemmas.Bool.{cases_eq, eq-eqb, ne_eqb}
use Rattle.service.specs.Outcomes.{run}
use Rattle.service.specs.Recorders.{Channels, RecorderLaws, by_sample, channel_of, first_channels, most, reading_for, readings_for, recorder_next, sample_of, sampled, samples_at, silent}
use Rattle.service.specs.declared.recorders.Channel.{Channel}
use Rattle.service.specs.declared.recorders.Sample.{Sample}

abbrev at : Channels → ℕ → Channel
at channels c = get_or channels c silent

-- a sample for another channel changes nothing here
sampled_other : (channels : Channels) (s : Sample) (c : ℕ) → s.channel ≢ c → at (sampled channels s).after c ≡ at channels c
sampled_other channels s c other = grind (arith, common_steps)

-- a channel that takes one reading more
one_more : (readings : List ℕ) (r n : ℕ) → n ≡ length readings → ◌≡◌ {A = Channel} (record { samples = n + 1; latest = r }) (channel_of (readings ++ (r ∷ [])))
one_more readings r n e = grind (arith, common_steps)

-- a sample for this channel is taken, unless as many were as the channel takes
sampled_own : (channels : Channels) (s : Sample) (readings : List ℕ) → s.channel < length channels → at channels s.channel ≡ channel_of (take most readings) → at (sampled channels s).after s.channel ≡ channel_of (take most (readings ++ (s.reading ∷ [])))
sampled_own channels s readings within before =
    let count = ap (λ ch. ch.samples) before in
    let front = length-take most readings in
    let long = length_push readings s.reading in
    elim (cases_eq (samples_at channels s.channel) most) [
      | inl full ↦
          rw (eq-eqb (samples_at channels s.channel) most full)
          (before ∙ ap channel_of (sym (take-append-le most readings (s.reading ∷ []) (omega arith))))
      | inr more ↦
          rw (ne_eqb (samples_at channels s.channel) most more)
          (get_or-set_same channels s.channel _ silent within
          ∙ one_more readings s.reading _ (omega arith)
          ∙ ap channel_of (sym (take_all most (readings ++ (s.reading ∷ [])) (omega arith))))
    ]

-- one command: what a channel has taken, and then the reading for it, if there is one
step : (channels : Channels) (o : Option Sample) (c : ℕ) (readings : List ℕ) → c < length channels → at channels c ≡ channel_of (take most readings) → at (by_sample channels o).after c ≡ channel_of (take most (readings ++ reading_for c o))
step channels None c readings within before = rw append-nil before
step channels (Some s) c readings within before = elim (cases_eq s.channel c) [
  | inl same ↦ rw (eq-eqb s.channel c same, ← same) (sampled_own channels s readings (rw (← same) at within) (rw (← same) at before))
  | inr other ↦ rw (ne_eqb s.channel c other, append-nil) (sampled_other channels s c other ∙ before)
]

by_sample_length : (channels : Channels) (o : Option Sample) → length (by_sample channels o).after ≡ length channels
by_sample_length channels None = refl
by_sample_length channels (Some s) = grind (arith, common_steps)

run_recorded : (commands : List ℕ) (channels : Channels) (c : ℕ) (readings : List ℕ) → c < length channels → at channels c ≡ channel_of (take most readings) → at (run recorder_next channels commands) c ≡ channel_of (take most (readings ++ readings_for c commands))
run_recorded [] channels c readings within before = rw append-nil before
run_recorded (x ∷ xs) channels c readings within before =
    let same = by_sample_length channels (sample_of x) in
    let rest = run_recorded xs (recorder_next channels x) c (readings ++ reading_for c (sample_of x)) (omega arith) (step channels (sample_of x) c readings within before) in
    rest ∙ ap (λ rs. channel_of (take most rs)) (append_assoc readings (reading_for c (sample_of x)) (readings_for c xs))

by_sample_apart : (channels : Channels) (o : Option Sample) (c : ℕ) → reading_for c o ≡ [] → at (by_sample channels o).after c ≡ at channels c
by_sample_apart channels None c none = refl
by_sample_apart channels (Some s) c none = grind (arith, common_steps)

both_empty : (xs ys : List ℕ) → xs ++ ys ≡ [] → (xs ≡ []) × (ys ≡ [])
both_empty [] ys e = (refl, e)
both_empty (x ∷ xs) ys e = cc

run_apart : (channels : Channels) (commands : List ℕ) (c : ℕ) → readings_for c commands ≡ [] → at (run recorder_next channels commands) c ≡ at channels c
run_apart channels [] c none = refl
run_apart channels (x ∷ xs) c none =
    let parts = both_empty (reading_for c (sample_of x)) (readings_for c xs) none in
    run_apart (recorder_next channels x) xs c parts.1 ∙ by_sample_apart channels (sample_of x) c parts.0

pub recorder_laws : RecorderLaws
recorder_laws = record {
  recorded = λ commands c within. run_recorded commands first_channels c [] within (get_or-replicate 16 c silent silent within);
  apart = run_apart;
}
