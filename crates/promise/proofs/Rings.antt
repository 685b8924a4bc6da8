-- The ring of records, read as the pages of a ledger.
use Rattle.std.proofs.Common.{◌≡◌, ℕ, zero, suc, ◌+◌, ◌-◌, ◌%◌, ◌<◌, ◌≤◌, true, false, cond, eqb, ltb, ◌≢◌, ◌⊎◌, List, [], ◌∷◌, map, length, get_or, set, Some, None, Option, sym, refl, ap, ◌∙◌, inl, inr, arith, length-set, get_or-set_other, get_or-set_same}
use mathlib.Core.Path.{fun_ext}
use Rattle.std.proofs.lemmas.Bool.{cases_eq, cases_lt, cases_Bool, and_parts, and_from, and_left, and_right, cond-true, cond-false, eq-eqb, ne_eqb, ltb-true, leb-true, lt-ltb, le-ltb, le-leb, lt-leb}
use Rattle.ledger.specs.Sheets.{Point, at, Page, Sheet, write}
use Rattle.ledger.specs.Sheets as sheets
use Rattle.slots.specs.Cores.{in_window, is_open, record_at, put, entered, cleared, collected}
use Rattle.slots.specs.Records.{blank, no_votes, has, is_there, order_of, dropped}
use Rattle.slots.specs.declared.cores.Core.{Core}
use Rattle.slots.specs.declared.records.Certificate.{Certificate}
use Rattle.slots.specs.declared.records.Record.{Record}

-- what a certificate says, if there is one
abbrev pub point_of : Certificate → Option Point
point_of x = cond (is_there x) (Some (at x.view.0 x.command)) None

abbrev pub page_of : Record → Page
page_of r = record { order = order_of r; prepares = has r.prepares; commits = has r.commits; prepared = point_of r.prepared; decided = point_of r.decided }

-- inside the window a slot has its record, outside it there is nothing
abbrev pub page_at : Core → ℕ → Page
page_at core n = cond (in_window core.floor.0 n) (page_of (record_at core n)) sheets.blank

abbrev pub sheet_of : Core → Sheet
sheet_of core = record { view = core.view.0; floor = core.floor.0; page = page_at core }

-- the arrays have their lengths
pub record Sized (core : Core) : Type 0 where
  pub ring : length core.table.records ≡ 32
  pub prepares : (i : ℕ) → length (get_or core.table.records i blank).prepares.held ≡ 4
  pub commits : (i : ℕ) → length (get_or core.table.records i blank).commits.held ≡ 4

pub window : (f n : ℕ) → in_window f n ≡ true → (f < n) × (n ≤ f + 32)
window f n h = let p = and_parts _ _ h in (ltb-true f n p.0, leb-true n (f + 32) p.1)

pub inside : (f n : ℕ) → f < n → n ≤ f + 32 → in_window f n ≡ true
inside f n a b = and_from _ _ (lt-ltb f n a) (le-leb n (f + 32) b)

pub page_inside : (core : Core) (n : ℕ) → core.floor.0 < n → n ≤ core.floor.0 + 32 → page_at core n ≡ page_of (record_at core n)
page_inside core n a b = cond-true (in_window core.floor.0 n) _ _ (inside core.floor.0 n a b)

page_below : (core : Core) (n : ℕ) → n ≤ core.floor.0 → page_at core n ≡ sheets.blank
page_below core n a = cond-false (in_window core.floor.0 n) _ _ (and_left _ _ (le-ltb core.floor.0 n a))

page_above : (core : Core) (n : ℕ) → core.floor.0 + 32 < n → page_at core n ≡ sheets.blank
page_above core n a = cond-false (in_window core.floor.0 n) _ _ (and_right _ _ (lt-leb n (core.floor.0 + 32) a))

-- a slot that is open has its page in the ring
module _ (core : Core) (n : ℕ) (opened : is_open core n ≡ true) where
  pub in_ring : (core.floor.0 < n) × (n ≤ core.floor.0 + 32)
  in_ring = window core.floor.0 n (and_parts _ _ opened).0

  pub page_is : page_at core n ≡ page_of (record_at core n)
  page_is = page_inside core n in_ring.0 in_ring.1

-- where a slot stands to a floor
where_is : (f n : ℕ) → (n ≤ f) ⊎ (((f < n) × (n ≤ f + 32)) ⊎ (f + 32 < n))
where_is f n = elim (cases_lt f n) [
  | inl a ↦ elim (cases_lt (f + 32) n) [ inl b ↦ inr (inr b) | inr b ↦ inr (inl (a, b)) ]
  | inr a ↦ inl a
]

module _ (core : Core) (sized : Sized core) (n : ℕ) (low : core.floor.0 < n) (high : n ≤ core.floor.0 + 32) (r : Record) where
  pub put_sheet : sheet_of (put core n r) ≡ write (sheet_of core) n (page_of r)
  put_sheet = ap (λ (p : ℕ → Page). record { view = core.view.0; floor = core.floor.0; page = p }) (fun_ext (λ m. elim (cases_eq m n) [
    | inl q ↦
        page_inside (put core n r) m (omega arith) (omega arith)
        ∙ ap page_of (ap (λ (i : ℕ). get_or (set core.table.records (n % 32) r) (i % 32) blank) q ∙ get_or-set_same core.table.records (n % 32) r blank (omega (arith, sized.ring)))
        ∙ sym (cond-true (eqb m n) _ _ (eq-eqb m n q))
    | inr q ↦ elim (where_is core.floor.0 m) [
      | inl a ↦ page_below (put core n r) m a ∙ sym (page_below core m a) ∙ sym (cond-false (eqb m n) _ _ (ne_eqb m n q))
      | inr (inl a) ↦
          let ne : m % 32 ≢ n % 32 = let b = a.0 in let c = a.1 in omega arith in
          page_inside (put core n r) m a.0 a.1
          ∙ ap page_of (get_or-set_other core.table.records (n % 32) (m % 32) r blank ne)
          ∙ sym (page_inside core m a.0 a.1) ∙ sym (cond-false (eqb m n) _ _ (ne_eqb m n q))
      | inr (inr a) ↦ page_above (put core n r) m a ∙ sym (page_above core m a) ∙ sym (cond-false (eqb m n) _ _ (ne_eqb m n q))
    ]
  ]))

set_length : {X : Type 0} (f : Record → List X) (v : Record) → length (f v) ≡ 4 → (rs : List Record) (j i : ℕ) → ((i : ℕ) → length (f (get_or rs i blank)) ≡ 4) → length (f (get_or (set rs j v) i blank)) ≡ 4
set_length f v h [] j i k = k i
set_length f v h (x ∷ rs) zero zero k = h
set_length f v h (x ∷ rs) zero (suc i) k = k (suc i)
set_length f v h (x ∷ rs) (suc j) zero k = k 0
set_length f v h (x ∷ rs) (suc j) (suc i) k = set_length f v h rs j i (λ m. k (suc m))

pub put_sized : (core : Core) (n : ℕ) (r : Record) → Sized core → length r.prepares.held ≡ 4 → length r.commits.held ≡ 4 → Sized (put core n r)
put_sized core n r s p c = record {
  ring = length-set core.table.records (n % 32) r ∙ s.ring;
  prepares = λ i. set_length (λ (x : Record). x.prepares.held) r p core.table.records (n % 32) i s.prepares;
  commits = λ i. set_length (λ (x : Record). x.commits.held) r c core.table.records (n % 32) i s.commits;
}

-- entering a view
dropped_at : (rs : List Record) (i : ℕ) → get_or (map dropped rs) i blank ≡ dropped (get_or rs i blank)
dropped_at [] i = refl
dropped_at (x ∷ rs) zero = refl
dropped_at (x ∷ rs) (suc i) = dropped_at rs i

has_none : (j : ℕ) → has no_votes j ≡ false
has_none zero = refl
has_none (suc zero) = refl
has_none (suc (suc zero)) = refl
has_none (suc (suc (suc zero))) = refl
has_none (suc (suc (suc (suc j)))) = refl

dropped_page : (r : Record) → page_of (dropped r) ≡ sheets.dropped (page_of r)
dropped_page r = let f : has no_votes ≡ (λ _. false) = fun_ext has_none in λ i. record { order = None; prepares = f i; commits = f i; prepared = point_of r.prepared; decided = point_of r.decided }

pub blank_page : page_of blank ≡ sheets.blank
blank_page = dropped_page blank

pub entered_sheet : (core : Core) (v : ℕ) → sheet_of (entered core v) ≡ record { view = v; floor = core.floor.0; page = λ m. sheets.dropped (page_at core m) }
entered_sheet core v = ap (λ (p : ℕ → Page). record { view = v; floor = core.floor.0; page = p }) (fun_ext (λ m. elim (cases_Bool (in_window core.floor.0 m)) [
  | inl t ↦ cond-true (in_window core.floor.0 m) _ _ t ∙ ap page_of (dropped_at core.table.records (m % 32)) ∙ dropped_page (record_at core m) ∙ ap sheets.dropped (sym (cond-true (in_window core.floor.0 m) _ _ t))
  | inr t ↦ cond-false (in_window core.floor.0 m) _ _ t ∙ ap sheets.dropped (sym (cond-false (in_window core.floor.0 m) _ _ t))
]))

map_length : (rs : List Record) → length (map dropped rs) ≡ length rs
map_length [] = refl
map_length (x ∷ rs) = ap suc (map_length rs)

pub entered_sized : (core : Core) (v : ℕ) → Sized core → Sized (entered core v)
entered_sized core v s = record {
  ring = map_length core.table.records ∙ s.ring;
  prepares = λ i. rw (dropped_at core.table.records i);
  commits = λ i. rw (dropped_at core.table.records i);
}

-- collecting
cleared_length : (rs : List Record) (f k : ℕ) → length (cleared rs f k) ≡ length rs
cleared_length rs f zero = refl
cleared_length rs f (suc k) = length-set (cleared rs f k) ((f + k + 1) % 32) blank ∙ cleared_length rs f k

cleared_other : (rs : List Record) (f k n : ℕ) → f + k < n → n ≤ f + 32 → get_or (cleared rs f k) (n % 32) blank ≡ get_or rs (n % 32) blank
cleared_other rs f zero n low high = refl
cleared_other rs f (suc k) n low high =
    let ne : n % 32 ≢ (f + k + 1) % 32 = omega arith in
    get_or-set_other (cleared rs f k) ((f + k + 1) % 32) (n % 32) blank blank ne ∙ cleared_other rs f k n (omega arith) high

cleared_same : (rs : List Record) (f k n : ℕ) → length rs ≡ 32 → k ≤ 32 → f + 32 < n → n ≤ f + k + 32 → get_or (cleared rs f k) (n % 32) blank ≡ blank
cleared_same rs f zero n len b low high = absurd (omega arith)
cleared_same rs f (suc k) n len b low high = elim (cases_eq n (f + k + 1 + 32)) [
  | inl e ↦
      let at : n % 32 ≡ (f + k + 1) % 32 = omega arith in
      let l = cleared_length rs f k in
      rw at (get_or-set_same (cleared rs f k) ((f + k + 1) % 32) blank blank (omega arith))
  | inr q ↦
      let ne : n % 32 ≢ (f + k + 1) % 32 = omega arith in
      get_or-set_other (cleared rs f k) ((f + k + 1) % 32) (n % 32) blank blank ne ∙ cleared_same rs f k n len (omega arith) low (omega arith)
]

module _ (core : Core) (sized : Sized core) (n : ℕ) (low : core.floor.0 < n) (high : n ≤ core.floor.0 + 32) where
  pub collected_sheet : sheet_of (collected core n) ≡ record { view = core.view.0; floor = n; page = λ m. cond (ltb n m) (page_at core m) sheets.blank }
  collected_sheet = ap (λ (p : ℕ → Page). record { view = core.view.0; floor = n; page = p }) (fun_ext (λ m. elim (where_is n m) [
    | inl a ↦ page_below (collected core n) m a ∙ sym (cond-false (ltb n m) _ _ (le-ltb n m a))
    | inr (inl a) ↦
        let a0 = a.0 in
        let a1 = a.1 in
        page_inside (collected core n) m a0 a1
        ∙ (elim (cases_lt (core.floor.0 + 32) m) as (λ _. page_of (record_at (collected core n) m) ≡ page_at core m) [
          | inl b ↦ ap page_of (cleared_same core.table.records core.floor.0 (n - core.floor.0) m sized.ring (omega arith) b (omega arith)) ∙ blank_page ∙ sym (page_above core m b)
          | inr b ↦ ap page_of (cleared_other core.table.records core.floor.0 (n - core.floor.0) m (omega arith) b) ∙ sym (page_inside core m (omega arith) b)
        ])
        ∙ sym (cond-true (ltb n m) _ _ (lt-ltb n m a0))
    | inr (inr a) ↦ page_above (collected core n) m a ∙ sym (page_above core m (omega arith)) ∙ sym (cond-true (ltb n m) _ _ (lt-ltb n m (omega arith)))
  ]))

cleared_four : {X : Type 0} (f : Record → List X) → length (f blank) ≡ 4 → (rs : List Record) (from k i : ℕ) → ((i : ℕ) → length (f (get_or rs i blank)) ≡ 4) → length (f (get_or (cleared rs from k) i blank)) ≡ 4
cleared_four f h rs from zero i k = k i
cleared_four f h rs from (suc m) i k = set_length f blank h (cleared rs from m) ((from + m + 1) % 32) i (λ j. cleared_four f h rs from m j k)

pub collected_sized : (core : Core) (n : ℕ) → Sized core → Sized (collected core n)
collected_sized core n s = record {
  ring = cleared_length core.table.records core.floor.0 (n - core.floor.0) ∙ s.ring;
  prepares = λ i. cleared_four (λ (x : Record). x.prepares.held) refl core.table.records core.floor.0 (n - core.floor.0) i s.prepares;
  commits = λ i. cleared_four (λ (x : Record). x.commits.held) refl core.table.records core.floor.0 (n - core.floor.0) i s.commits;
}
