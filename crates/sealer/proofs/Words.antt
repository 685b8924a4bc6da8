-- Laws of the numbers that bytes stand for, low byte first.
use Rattle.std.proofs.Common.{◌≡◌, ℕ, zero, suc, ◌+◌, ◌-◌, ◌*◌, ◌/◌, ◌%◌, ◌^◌, ◌<◌, ◌≤◌, List, [], ◌∷◌, ◌++◌, length, get_or, set, replicate, take, drop, refl, ap, ◌∙◌, add-one, arith}
use Rattle.std.proofs.lemmas.List.{get_or-drop, get_or-take, get_or-set_other, get_or-set_same, drop-drop, length-append, length-drop}
use Rattle.std.specs.Int.{w64, from_le_bytes, rotate_left}
use Rattle.std.specs.Simd.{first_chunks}
use Rattle.sealer.specs.declared.hashes.State.{State}
use Rattle.sealer.specs.Siphash.{low, last_word, absorbed, compressed, turned}

-- a number reads the same in the bytes from a place on, and where its bytes are taken out
pub low_dropped : (n i j : ℕ) (bs : List ℕ) → low n (drop i bs) j ≡ low n bs (i + j)
unfolding low
low_dropped zero i j bs = refl
low_dropped (suc n) i j bs =
    let g = get_or-drop i bs j 0 in
    let l = low_dropped n i (j + 1) bs in
    let a : i + (j + 1) ≡ i + j + 1 = omega arith in
    ap (λ b. b + 256 * low n (drop i bs) (j + 1)) g ∙ ap (λ x. get_or bs (i + j) 0 + 256 * x) (l ∙ ap (low n bs) a)

pub low_taken : (n m j : ℕ) (bs : List ℕ) → j + n ≤ m → low n (take m bs) j ≡ low n bs j
unfolding low
low_taken zero m j bs h = refl
low_taken (suc n) m j bs h =
    let g = get_or-take m bs j 0 (omega arith) in
    let l = low_taken n m (j + 1) bs (omega arith) in
    ap (λ b. b + 256 * low n (take m bs) (j + 1)) g ∙ ap (λ x. get_or bs j 0 + 256 * x) l

-- the library's number of eight bytes
pub word_is : (bs : List ℕ) → from_le_bytes w64 bs ≡ low 8 bs 0
unfolding low
word_is bs = omega arith

-- the words that a message is cut into
chunk_at : (k n : ℕ) (bs : List ℕ) → n < k → get_or (first_chunks 8 k bs) n [] ≡ take 8 (drop (8 * n) bs)
chunk_at zero n bs h = absurd (omega arith)
chunk_at (suc k) zero bs h = refl
chunk_at (suc k) (suc n) bs h =
    let a : 8 + 8 * n ≡ 8 * suc n = omega arith in
    chunk_at k n (drop 8 bs) (omega arith) ∙ ap (take 8) (drop-drop (8 * n) 8 bs ∙ ap (λ m. drop m bs) a)

pub word_at : (ws : List (List ℕ)) (k n : ℕ) (bs : List ℕ) → ws ≡ first_chunks 8 k bs → n < k → low 8 (get_or ws n []) 0 ≡ low 8 bs (8 * n)
word_at ws k n bs e h =
    ap (λ ps. low 8 (get_or ps n []) 0) e
    ∙ (ap (λ w. low 8 w 0) (chunk_at k n bs h) ∙ (low_taken 8 8 0 (drop (8 * n) bs) (omega arith) ∙ (low_dropped 8 (8 * n) 0 bs ∙ ap (low 8 bs) (omega arith))))

-- the last word, from the bytes that are left over
pub last_is : (bs rest : List ℕ) → rest ≡ drop (length bs / 8 * 8) bs → low 7 rest 0 + length bs % 256 * 2 ^ 56 ≡ last_word bs
unfolding last_word
last_is bs rest e =
    let a : length bs / 8 * 8 + 0 ≡ 8 * (length bs / 8) = omega arith in
    let l = ap (λ r. low 7 r 0) e ∙ (low_dropped 7 (length bs / 8 * 8) 0 bs ∙ ap (low 7 bs) a) in
    ap (λ x. x + length bs % 256 * 2 ^ 56) l

-- bytes with zeros behind them, and a byte in the place of the eighth
abbrev pub nils : ℕ → List ℕ
nils n = replicate n 0

zeros : (n j : ℕ) → get_or (nils n) j 0 ≡ 0
zeros zero j = refl
zeros (suc n) zero = refl
zeros (suc n) (suc j) = zeros n j

padded : (bs zs : List ℕ) (k : ℕ) → ((j : ℕ) → get_or zs j 0 ≡ 0) → get_or (bs ++ zs) k 0 ≡ get_or bs k 0
padded [] zs k z = z k
padded (b ∷ bs) zs zero z = refl
padded (b ∷ bs) zs (suc k) z = padded bs zs k z

low_same : (n i : ℕ) (xs ys : List ℕ) → ((k : ℕ) → k < i + n → get_or xs k 0 ≡ get_or ys k 0) → low n xs i ≡ low n ys i
unfolding low
low_same zero i xs ys e = refl
low_same (suc n) i xs ys e =
    let l = low_same n (i + 1) xs ys (λ k h. e k (omega arith)) in
    ap (λ b. b + 256 * low n xs (i + 1)) (e i (omega arith)) ∙ ap (λ x. get_or ys i 0 + 256 * x) l

top : (bs : List ℕ) → low 8 bs 0 ≡ low 7 bs 0 + get_or bs 7 0 * 2 ^ 56
unfolding low
top bs = omega arith

pub last_bytes : (bs : List ℕ) (b : ℕ) → length bs ≤ 7 → low 8 (set (bs ++ drop (length bs) (nils 8)) 7 b) 0 ≡ low 7 bs 0 + b * 2 ^ 56
last_bytes bs b h =
    let zs : List ℕ = drop (length bs) (nils 8) in
    let z : (j : ℕ) → get_or zs j 0 ≡ 0 = λ j. get_or-drop (length bs) (nils 8) j 0 ∙ zeros 8 (length bs + j) in
    let n : 7 < length (bs ++ zs) = rw (length-append bs zs, length-drop (length bs) (nils 8)) (omega arith) in
    let e : low 7 (set (bs ++ zs) 7 b) 0 ≡ low 7 bs 0 = low_same 7 0 _ _ (λ k l. get_or-set_other (bs ++ zs) 7 k b 0 (λ q. omega arith) ∙ padded bs zs k z) in
    let g : get_or (set (bs ++ zs) 7 b) 7 0 ≡ b = get_or-set_same (bs ++ zs) 7 b 0 n in
    top (set (bs ++ zs) 7 b) ∙ (ap (λ x. x + get_or (set (bs ++ zs) 7 b) 7 0 * 2 ^ 56) e ∙ ap (λ x. low 7 bs 0 + x * 2 ^ 56) g)

-- one word more
pub absorbed_more : (s : State) (bs : List ℕ) (n w : ℕ) → w ≡ low 8 bs (8 * n) → compressed (absorbed s bs n) w ≡ absorbed s bs (n + 1)
unfolding absorbed
absorbed_more s bs n w e = rw (add-one, e) refl

-- a word turned by less than its bits
pub turned_is : (a k : ℕ) → 0 < k → k < 64 → rotate_left w64 a k ≡ turned a k
turned_is a k p h =
    let l : k % 64 ≡ k = omega arith in
    let r : (64 - k) % 64 ≡ 64 - k = omega arith in
    rw (l, r) refl
