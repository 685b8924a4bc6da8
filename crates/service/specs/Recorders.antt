-- The recorder.
use Rattle.std.specs.Prelude.{◌≡◌, ℕ, ◌+◌, ◌-◌, ◌/◌, ◌%◌, ◌^◌, ◌<◌, cond, ◌&&◌, List, [], ◌∷◌, ◌++◌, length, get_or, take, replicate, Some, None, fold, Option, ◌==◌, nat_lt, slice_index, slice_index_or, slice_set}
use Rattle.service.specs.Commands.{first_byte, second_byte, given}
use Rattle.service.specs.Marks.{mark_with}
use Rattle.service.specs.Outcomes.{Outcome, refused, run}
use Rattle.service.specs.declared.recorders.Channel.{Channel}
use Rattle.service.specs.declared.recorders.Sample.{Sample}

-- 53 hex, the channel, two zero bytes, the reading in four bytes
abbrev pub sample_of : ℕ → Option Sample
sample_of command =
    given (first_byte command == 0x53 && nat_lt (second_byte command) 16 && command / 2 ^ 32 % 2 ^ 16 == 0)
    (record { channel = second_byte command; reading = command % 2 ^ 32 })

-- the state: the channels in order
abbrev pub Channels : Type 0
Channels = List Channel

abbrev pub silent : Channel
silent = record { samples = 0; latest = 0 }

abbrev pub first_channels : Channels
first_channels = replicate 16 silent

-- as many samples as a channel takes
abbrev pub most : ℕ
most = 2 ^ 32 - 1

abbrev pub samples_at : Channels → ℕ → ℕ
samples_at channels c = (get_or channels c silent).samples

abbrev pub channel_at : Channels → ℕ → Option Channel
channel_at channels c = given (nat_lt c 16) (slice_index_or channels c silent)

-- the channel's number goes up by one and is the answer, and the reading is its latest
abbrev pub taken : Channels → Sample → Outcome Channels
taken channels s = record {
  answer = samples_at channels s.channel + 1;
  after = slice_set channels s.channel (record { samples = samples_at channels s.channel + 1; latest = s.reading });
}

-- a full channel takes no sample
abbrev pub sampled : Channels → Sample → Outcome Channels
sampled channels s = cond (samples_at channels s.channel == most) (refused channels) (taken channels s)

abbrev pub by_sample : Channels → Option Sample → Outcome Channels
by_sample channels None = refused channels
by_sample channels (Some s) = sampled channels s

abbrev pub recorder_result : Channels → ℕ → ℕ
recorder_result channels command = (by_sample channels (sample_of command)).answer

abbrev pub recorder_next : Channels → ℕ → Channels
recorder_next channels command = (by_sample channels (sample_of command)).after

abbrev pub mark_with_channel : ℕ → Channel → ℕ
mark_with_channel mark channel = mark_with (mark_with mark channel.samples) channel.latest

abbrev pub recorder_mark : Channels → ℕ
recorder_mark channels = fold mark_with_channel 0 channels

-- the readings of the samples for one channel, in order
abbrev pub reading_for : ℕ → Option Sample → List ℕ
reading_for c None = []
reading_for c (Some s) = cond (s.channel == c) (s.reading ∷ []) []

abbrev pub readings_for : ℕ → List ℕ → List ℕ
readings_for c [] = []
readings_for c (command ∷ commands) = reading_for c (sample_of command) ++ readings_for c commands

-- a channel that has taken these readings and no other
abbrev pub channel_of : List ℕ → Channel
channel_of readings = record { samples = length readings; latest = slice_index readings (length readings - 1) }

-- what holds of every run of commands
pub record RecorderLaws : Type 0 where
  -- from the first state on, each channel has taken the readings for it, up to the most that it takes
  pub recorded : (commands : List ℕ) (c : ℕ) → c < 16 → slice_index_or (run recorder_next first_channels commands) c silent ≡ channel_of (take most (readings_for c commands))
  -- a channel for which there was no reading is as it was
  pub apart : (channels : Channels) (commands : List ℕ) (c : ℕ) → readings_for c commands ≡ [] → slice_index_or (run recorder_next channels commands) c silent ≡ slice_index_or channels c silent
