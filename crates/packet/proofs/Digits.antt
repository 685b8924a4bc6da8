-- Numbers of any width, read and written.
use Rattle.std.proofs.Common.{◌≡◌, ℕ, zero, suc, ◌+◌, ◌*◌, ◌^◌, ◌<◌, ◌≤◌, List, ◌++◌, length, get_or, take, drop, refl, ap, ◌∙◌, pow-suc, arith, rules}
use Rattle.std.proofs.lemmas.Nat.{div-mul-add, mod-mul-add}
use Rattle.std.proofs.lemmas.List.{take_more, get_or-drop, get_or-take, length-drop, take-append-drop, drop-drop}
use Rattle.std.specs.Int.{w32, w64, to_be_bytes, from_be_bytes}
use Rattle.std.proofs.ByRecursion.{All-get_or}
use Rattle.std.specs.Int.Digits.{AllBelowBase}
use Rattle.packet.specs.Digits.{bytes_of, number_at}

-- the number at a place is written as the bytes that stand there
bytes_there : (w : ℕ) (bs : List ℕ) (i : ℕ) → AllBelowBase 256 bs → i + w ≤ length bs → bytes_of w (number_at w bs i) ≡ take w (drop i bs)
bytes_there zero bs i u h = refl
bytes_there (suc w) bs i u h =
    let b : get_or bs (i + w) 0 < 256 = All-get_or (λ d. d < 256) bs (i + w) 0 (omega arith) u in
    let q = div-mul-add (number_at w bs i) 256 (get_or bs (i + w) 0) b in
    let r = mod-mul-add (number_at w bs i) 256 (get_or bs (i + w) 0) b in
    let ih = bytes_there w bs i u (omega arith) in
    let l : w < length (drop i bs) = simp length-drop (omega arith) in
    let t = take_more (drop i bs) w 0 l in
    let g = get_or-drop i bs w 0 in
    let z : suc w ≡ w + 1 = omega arith in
    cc

-- the bytes from a place on are those of the number there, and the rest
pub bytes_part : (w : ℕ) (bs : List ℕ) (i : ℕ) → AllBelowBase 256 bs → i + w ≤ length bs → drop i bs ≡ bytes_of w (number_at w bs i) ++ drop (i + w) bs
bytes_part w bs i u h =
    let t = take-append-drop w (drop i bs) in
    let d = drop-drop w i bs in
    let b = bytes_there w bs i u h in
    cc

-- at the two widths of the format, what is written reads back by arithmetic alone
pub four_back : (n : ℕ) → n < 2 ^ 32 → number_at 4 (bytes_of 4 n) 0 ≡ n
four_back n h = omega arith

pub eight_back : (n : ℕ) → n < 2 ^ 64 → number_at 8 (bytes_of 8 n) 0 ≡ n
eight_back n h = omega arith

-- a number of w bytes is below 256 ^ w
pub number_small : (w : ℕ) (bs : List ℕ) (i : ℕ) → AllBelowBase 256 bs → i + w ≤ length bs → number_at w bs i < 256 ^ w
number_small zero bs i u h = omega arith
number_small (suc w) bs i u h =
    let b : get_or bs (i + w) 0 < 256 = All-get_or (λ d. d < 256) bs (i + w) 0 (omega arith) u in
    let ih = number_small w bs i u (omega arith) in
    rw pow-suc (omega arith)

-- a number reads the same where its bytes stand alone
taken_alone : (w m : ℕ) (bs : List ℕ) (i : ℕ) → i + w ≤ m → number_at w (take m bs) i ≡ number_at w bs i
taken_alone zero m bs i h = refl
taken_alone (suc w) m bs i h =
    let t = taken_alone w m bs i (omega arith) in
    let g = get_or-take m bs (i + w) 0 (omega arith) in
    ap (λ x. x * 256 + get_or (take m bs) (i + w) 0) t ∙ ap (λ b. number_at w bs i * 256 + b) g

dropped_before : (w i j : ℕ) (bs : List ℕ) → number_at w (drop i bs) j ≡ number_at w bs (i + j)
dropped_before zero i j bs = refl
dropped_before (suc w) i j bs =
    let d = dropped_before w i j bs in
    let g = get_or-drop i bs (j + w) 0 in
    let a : i + (j + w) ≡ i + j + w = omega arith in
    ap (λ x. x * 256 + get_or (drop i bs) (j + w) 0) d ∙ ap (λ b. number_at w bs (i + j) * 256 + b) (g ∙ ap (λ k. get_or bs k 0) a)

alone : (w i : ℕ) (bs : List ℕ) → number_at w (take w (drop i bs)) 0 ≡ number_at w bs i
alone w i bs = taken_alone w w (drop i bs) 0 (omega arith) ∙ (dropped_before w i 0 bs ∙ ap (number_at w bs) (omega arith))

-- the library's numbers of four and of eight bytes are these
pub four_written : (n : ℕ) → to_be_bytes w32 n ≡ bytes_of 4 n
four_written n = search rules

pub eight_written : (n : ℕ) → to_be_bytes w64 n ≡ bytes_of 8 n
eight_written n = search rules

four_same : (f : List ℕ) → from_be_bytes w32 f ≡ number_at 4 f 0
four_same f = omega arith

eight_same : (f : List ℕ) → from_be_bytes w64 f ≡ number_at 8 f 0
eight_same f = omega arith

pub four_read : (i : ℕ) (bs f : List ℕ) → f ≡ take 4 (drop i bs) → from_be_bytes w32 f ≡ number_at 4 bs i
four_read i bs f e = four_same f ∙ (ap (λ x. number_at 4 x 0) e ∙ alone 4 i bs)

pub eight_read : (i : ℕ) (bs f : List ℕ) → f ≡ take 8 (drop i bs) → from_be_bytes w64 f ≡ number_at 8 bs i
eight_read i bs f e = eight_same f ∙ (ap (λ x. number_at 8 x 0) e ∙ alone 8 i bs)
