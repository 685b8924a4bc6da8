-- What the sealers mean, whose seals are tags of the sealed bytes under the signer's number.
use Rattle.std.specs.Prelude.{ℕ, ◌+◌, ◌*◌, ◌%◌, ◌^◌, ◌&&◌, List, [], fold, ◌==◌, nat_le, slice_index_or}
use Rattle.sealer.specs.Seals.{Meaning}
use Rattle.sealer.specs.Siphash.{siphash}

-- the tag itself is genuine, and no other; there is no signer above 3, so nothing is genuine under one
abbrev pub tag_genuine : (ℕ → List ℕ → ℕ) → Meaning
tag_genuine tag i body t = nat_le i 3 && t == tag i body

-- SipHash-2-4 of the 22 bytes under the signer's key
abbrev pub sip_tag : List (List ℕ) → ℕ → List ℕ → ℕ
sip_tag keys i body = siphash (slice_index_or keys i []) body

-- each byte makes the tag m into 31 m + byte, from 0 on
abbrev pub bench_step : ℕ → ℕ → ℕ
bench_step m b = (31 * m + b) % 2 ^ 64

unfoldable pub bench_tag : List ℕ → ℕ
bench_tag body = fold bench_step 0 body
