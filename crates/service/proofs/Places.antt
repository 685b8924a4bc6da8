-- How the holders of places change over a run of commands.
use Rattle.std.proofs.Common.{◌≡◌, ℕ, ◌≢◌, ◌⊎◌, List, [], ◌∷◌, get_or, Some, None, Option, sym, refl, ap, ◌∙◌, inl, inr, arith}
use Rattle.std.specs.List.{AllByRecursion}
use Rattle.std.proofs.lemmas.List.{get_or_past, get_or-replicate}
use Rattle.std.proofs.lemmas.Grind.{common_steps}
use Rattle.std.proofs.lemmas.Bool.{cases_eq, cases_lt}
use Rattle.service.specs.Bookings.{BookingLaws, HeldSince, Holders, booking_next, by_request, first_holders, passed, request_of}
use Rattle.service.specs.Outcomes.{run}
use Rattle.service.specs.declared.bookings.Request.{Request}
use Rattle.service.specs.declared.bookings.Request.TheVariants.{Book, Free}

abbrev at : Holders → ℕ → ℕ
at holders place = get_or holders place 0

-- a place whose holder changed was the one passed on, by its holder
passed_changes : (holders : Holders) (place from to p : ℕ) → at (passed holders place from to).after p ≢ at holders p → (place ≡ p) × (at holders p ≡ from) × (at (passed holders place from to).after p ≡ to)
passed_changes holders place from to p changed = elim (cases_eq (at holders place) from) [
  | inl theirs ↦ grind (arith, common_steps)
  | inr other ↦ grind (arith, common_steps)
]

abbrev Changes : Holders → Option Request → ℕ → Type 0
Changes holders o p = ((at holders p ≡ 0) × (o ≡ Some (Book p (at (by_request holders o).after p)))) ⊎ ((at (by_request holders o).after p ≡ 0) × (o ≡ Some (Free p (at holders p))))

request_changes : (holders : Holders) (o : Option Request) (p : ℕ) → at (by_request holders o).after p ≢ at holders p → Changes holders o p
request_changes holders None p changed = absurd (changed refl)
request_changes holders (Some (Book place holder)) p changed =
    let w = passed_changes holders place 0 holder p changed in
    let same = w.0 in
    let mine = w.2 in
    inl (w.1, cc)
request_changes holders (Some (Free place holder)) p changed =
    let w = passed_changes holders place holder 0 p changed in
    let same = w.0 in
    let mine = w.1 in
    inr (w.2, cc)

-- a place that its holder frees is free
frees : (holders : Holders) (place : ℕ) → at (passed holders place (at holders place) 0).after place ≡ 0
frees holders place = grind (arith, common_steps)

freed_request : (holders : Holders) (o : Option Request) (place : ℕ) → o ≡ Some (Free place (at holders place)) → at (by_request holders o).after place ≡ 0
freed_request holders o place asks = rw asks (frees holders place)

abbrev NotFreed : ℕ → ℕ → ℕ → Type 0
NotFreed place holder command = request_of command ≢ Some (Free place holder)

-- a holder at the end held the place from the start, or booked it on the way
run_held : (commands : List ℕ) (holders : Holders) (place holder : ℕ) → holder ≢ 0 → at (run booking_next holders commands) place ≡ holder → ((at holders place ≡ holder) × AllByRecursion (NotFreed place holder) commands) ⊎ HeldSince commands place holder
run_held [] holders place holder some now = inl (now, tt)
run_held (x ∷ xs) holders place holder some now =
    elim (run_held xs (booking_next holders x) place holder some now) [
      | inr later ↦ inr (record {
        before = x ∷ later.before;
        booking = later.booking;
        since = later.since;
        parts = ap (λ cs. x ∷ cs) later.parts;
        asks = later.asks;
        kept = later.kept;
      })
      | inl after ↦ elim (cases_eq (at holders place) holder) [
        | inl was ↦ inl (was, ((λ asks. some (sym after.0 ∙ freed_request holders (request_of x) place (asks ∙ ap (λ h. Some (Free place h)) (sym was)))), after.1))
        | inr other ↦ elim (request_changes holders (request_of x) place (λ e. other (sym e ∙ after.0))) [
          | inl booked ↦ inr (record {
            before = [];
            booking = x;
            since = xs;
            parts = refl;
            asks = booked.1 ∙ ap (λ h. Some (Book place h)) after.0;
            kept = after.1;
          })
          | inr freed ↦ absurd (some (sym after.0 ∙ freed.0))
        ]
      ]
    ]

none_at_first : (place : ℕ) → at first_holders place ≡ 0
none_at_first place = elim (cases_lt place 32) [
  | inl within ↦ get_or-replicate 32 place 0 0 within
  | inr past ↦ get_or_past first_holders place 0 past
]

pub booking_laws : BookingLaws
booking_laws = record {
  changes = λ holders command place changed. elim (request_changes holders (request_of command) place changed) [
    | inl booked ↦ inl (record { free = booked.0; asks = booked.1 })
    | inr freed ↦ inr (record { free = freed.0; asks = freed.1 })
  ];
  held = λ commands place some. elim (run_held commands first_holders place _ some refl) [
    | inl start ↦ absurd (some (sym start.0 ∙ none_at_first place))
    | inr since ↦ since
  ];
}
