-- SipHash-2-4, as Aumasson and Bernstein define it.
use Rattle.std.specs.Prelude.{ℕ, zero, suc, ◌+◌, ◌-◌, ◌*◌, ◌/◌, ◌%◌, ◌^◌, List, length, bit_or, bit_xor, slice_index}
use Rattle.sealer.specs.declared.hashes.State.{State}

-- the sum of two words
abbrev pub plus : ℕ → ℕ → ℕ
plus a b = (a + b) % 2 ^ 64

-- a word turned left by k bits
abbrev pub turned : ℕ → ℕ → ℕ
turned a k = bit_or ((a * 2 ^ k) % 2 ^ 64) (a / 2 ^ (64 - k))

-- SipRound, up to and from the middle
abbrev pub first_half : State → State
first_half s = record {
  v0 = turned (plus s.v0 s.v1) 32;
  v1 = bit_xor (turned s.v1 13) (plus s.v0 s.v1);
  v2 = plus s.v2 s.v3;
  v3 = bit_xor (turned s.v3 16) (plus s.v2 s.v3);
}

abbrev pub second_half : State → State
second_half s = record {
  v0 = plus s.v0 s.v3;
  v1 = bit_xor (turned s.v1 17) (plus s.v2 s.v1);
  v2 = turned (plus s.v2 s.v1) 32;
  v3 = bit_xor (turned s.v3 21) (plus s.v0 s.v3);
}

unfoldable pub sip_round : State → State
sip_round s = second_half (first_half s)

-- half a round by the turns of v1 and v3; v0 and v2 change places, so that half 17 21 (half 13 16 s) is sip_round s
abbrev pub half : (t1 t3 : ℕ) → State → State
half t1 t3 s = record {
  v0 = plus s.v2 s.v3;
  v1 = bit_xor (turned s.v1 t1) (plus s.v0 s.v1);
  v2 = turned (plus s.v0 s.v1) 32;
  v3 = bit_xor (turned s.v3 t3) (plus s.v2 s.v3);
}

-- initialization, from the two words of the key
abbrev pub keyed : ℕ → ℕ → State
keyed k0 k1 = record {
  v0 = bit_xor k0 0x736f6d6570736575;
  v1 = bit_xor k1 0x646f72616e646f6d;
  v2 = bit_xor k0 0x6c7967656e657261;
  v3 = bit_xor k1 0x7465646279746573;
}

abbrev pub xor_v0 : State → ℕ → State
xor_v0 s m = record { v0 = bit_xor s.v0 m; v1 = s.v1; v2 = s.v2; v3 = s.v3 }

abbrev pub xor_v2 : State → ℕ → State
xor_v2 s m = record { v0 = s.v0; v1 = s.v1; v2 = bit_xor s.v2 m; v3 = s.v3 }

abbrev pub xor_v3 : State → ℕ → State
xor_v3 s m = record { v0 = s.v0; v1 = s.v1; v2 = s.v2; v3 = bit_xor s.v3 m }

-- compression of one word: two rounds
unfoldable pub compressed : State → ℕ → State
compressed s m = xor_v0 (sip_round (sip_round (xor_v3 s m))) m

-- finalization: four rounds more, and the four words joined
abbrev pub joined : State → ℕ
joined s = bit_xor (bit_xor (bit_xor s.v0 s.v1) s.v2) s.v3

unfoldable pub finished : State → ℕ
finished s = joined (sip_round (sip_round (sip_round (sip_round (xor_v2 s 0xff)))))

-- the n bytes from place i on as a number, low byte first; past the end the bytes are 0
unfoldable pub low : ℕ → List ℕ → ℕ → ℕ
low zero bs i = 0
low (suc n) bs i = slice_index bs i + 256 * low n bs (i + 1)

-- the first n words of a message, compressed one after another
unfoldable pub absorbed : State → List ℕ → ℕ → State
absorbed s bs zero = s
absorbed s bs (suc n) = compressed (absorbed s bs n) (low 8 bs (8 * n))

-- the last word: the bytes past the whole words, and the length modulo 256 in the top byte
unfoldable pub last_word : List ℕ → ℕ
last_word bs = low 7 bs (8 * (length bs / 8)) + length bs % 256 * 2 ^ 56

-- the 64-bit result for a key of sixteen bytes and a message of any length
unfoldable pub siphash : List ℕ → List ℕ → ℕ
siphash key bs = finished (compressed (absorbed (keyed (low 8 key 0) (low 8 key 8)) bs (length bs / 8)) (last_word bs))
