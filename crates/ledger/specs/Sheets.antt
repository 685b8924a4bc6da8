-- One replica, its seals and bytes aside: what it has down of each slot, what it may do, and what it did.
-- Here and below own and j are replicas, u and v are views, n is a slot and c a command.
use Rattle.std.specs.Prelude.{◌≡◌, ℕ, ◌<◌, Bool, true, false, cond, ◌⊎◌, List, [], ◌∷◌, Some, None, Option, ◌==◌, nat_lt}
use Rattle.agreement.specs.Lists.{Among}
use Rattle.proof.specs.Roles.{primary, active, backups, every}

-- a command in a view
pub record Point : Type 0 where
  pub view : ℕ
  pub command : ℕ

abbrev pub at : (v c : ℕ) → Point
at v c = record { view = v; command = c }

-- what is down of one slot
pub record Page : Type 0 where
  -- the command ordered in the present view
  pub order : Option ℕ
  -- whose prepares and whose commits are held, of the present view
  pub prepares : ℕ → Bool
  pub commits : ℕ → Bool
  -- where the slot was prepared last, in whatever view
  pub prepared : Option Point
  -- the first decision
  pub decided : Option Point

abbrev pub blank : Page
blank = record { order = None; prepares = λ _. false; commits = λ _. false; prepared = None; decided = None }

-- the present view, the last slot that was collected, and a page for each slot
pub record Sheet : Type 0 where
  pub view : ℕ
  pub floor : ℕ
  pub page : ℕ → Page

abbrev pub start : Sheet
start = record { view = 1; floor = 0; page = λ _. blank }

-- What a replica does, with the numbers that each deed has.
pub data Deed : Type 0 where
  -- nothing that a page shows
  idle : Deed
  -- go to view v
  enter : (v : ℕ) → Deed
  -- forget the slots up to n
  collect : (n : ℕ) → Deed
  -- accept an order, the own one or the primary's
  order : (v n c : ℕ) → Deed
  -- count j's prepare, and j's commit
  prepare : (v n j c : ℕ) → Deed
  commit : (v n j c : ℕ) → Deed
  -- accept a certificate of a decision made in view v
  certificate : (n v c : ℕ) → Deed
  -- report for view v: the slot was prepared last in view e, with c; e is 0 if it never was
  report : (v n e c : ℕ) → Deed

-- j passes too
abbrev pub mark : ℕ → (ℕ → Bool) → ℕ → Bool
mark j f i = cond (i == j) true (f i)

-- the first of the two that is there
abbrev pub first : Option Point → Option Point → Option Point
first None q = q
first (Some p) q = Some p

abbrev pub when : Bool → Point → Option Point
when true q = Some q
when false q = None

-- With the order stands the own prepare, but not the primary's: its order is its vote.
abbrev pub ordered : (own v c : ℕ) → Page → Page
ordered own v c p = record { order = Some c; prepares = cond (own == primary v) p.prepares (mark own p.prepares); commits = p.commits; prepared = p.prepared; decided = p.decided }

abbrev pub with_prepare : ℕ → Page → Page
with_prepare j p = record { order = p.order; prepares = mark j p.prepares; commits = p.commits; prepared = p.prepared; decided = p.decided }

abbrev pub with_commit : ℕ → Page → Page
with_commit j p = record { order = p.order; prepares = p.prepares; commits = mark j p.commits; prepared = p.prepared; decided = p.decided }

abbrev pub with_prepared : Point → Page → Page
with_prepared q p = record { order = p.order; prepares = p.prepares; commits = p.commits; prepared = Some q; decided = p.decided }

abbrev pub with_decision : Point → Page → Page
with_decision q p = record { order = p.order; prepares = p.prepares; commits = p.commits; prepared = p.prepared; decided = Some q }

-- Once the commits of all active replicas are held, the slot is decided. The first decision stays.
abbrev pub settled : Point → Page → Page
settled q p = record { order = p.order; prepares = p.prepares; commits = p.commits; prepared = p.prepared; decided = first p.decided (when (every p.commits (active q.view)) q) }

-- Once the prepares of all backups are held, the slot is prepared and the own commit stands, perhaps as the last one.
abbrev pub confirmed : (own : ℕ) → Point → Page → Page
confirmed own q p = cond (every p.prepares (backups q.view)) (settled q (with_commit own (with_prepared q p))) p

-- A new view drops the order and the votes. What was prepared and what was decided stays.
abbrev pub dropped : Page → Page
dropped p = record { order = None; prepares = λ _. false; commits = λ _. false; prepared = p.prepared; decided = p.decided }

abbrev pub write : Sheet → ℕ → Page → Sheet
write s n p = record { view = s.view; floor = s.floor; page = λ k. cond (k == n) p (s.page k) }

-- the sheet after a deed
abbrev pub done : (own : ℕ) → Sheet → Deed → Sheet
done own s idle = s
done own s (enter v) = record { view = v; floor = s.floor; page = λ k. dropped (s.page k) }
done own s (collect n) = record { view = s.view; floor = n; page = λ k. cond (nat_lt n k) (s.page k) blank }
done own s (order v n c) = write s n (ordered own v c (s.page n))
done own s (prepare v n j c) = write s n (confirmed own (at v c) (with_prepare j (s.page n)))
done own s (commit v n j c) = write s n (settled (at v c) (with_commit j (s.page n)))
done own s (certificate n v c) = write s n (with_decision (at v c) (s.page n))
done own s (report v n e c) = s

-- what a report has to name
abbrev pub Noted : Option Point → (e c : ℕ) → Type 0
Noted None e c = e ≡ 0
Noted (Some q) e c = (e ≡ q.view) × (c ≡ q.command)

-- What a replica may do. Orders, votes and reports are of the present view, and slots that were collected are left alone.
abbrev pub may : (own : ℕ) → Sheet → Deed → Type 0
may own s idle = Unit {0}
may own s (enter v) = s.view < v
may own s (collect n) = s.floor < n
may own s (order v n c) = (v ≡ s.view) × (s.floor < n) × ((s.page n).order ≡ None) × Among own (active v)
may own s (prepare v n j c) = (v ≡ s.view) × (s.floor < n) × ((s.page n).order ≡ Some c) × (¬ (j ≡ own)) × Among own (active v)
may own s (commit v n j c) = (v ≡ s.view) × (s.floor < n) × ((s.page n).order ≡ Some c) × (¬ (j ≡ own)) × Among own (active v)
may own s (certificate n v c) = (s.floor < n) × ((s.page n).decided ≡ None)
may own s (report v n e c) = (v ≡ s.view) × (s.floor < n) × Noted (s.page n).prepared e c

-- what a replica did, newest first, and the sheet that it has then
pub data Did (own : ℕ) : List Deed → Sheet → Type 0 where
  begin : Did own [] start
  go : {l : List Deed} {s : Sheet} (d : Deed) → Did own l s → may own s d → Did own (d ∷ l) (done own s d)

-- The three words below ask the list of deeds alone, not the pages.
-- Prepared: the order was accepted, and the prepare of every other backup counted.
pub record Prepared (own v n c : ℕ) (l : List Deed) : Type 0 where
  pub ordered : Among (order v n c) l
  pub prepares : (j : ℕ) → Among j (backups v) → ¬ (j ≡ own) → Among (prepare v n j c) l

-- Settled: prepared, and the commit of every other active replica counted.
pub record Settled (own v n c : ℕ) (l : List Deed) : Type 0 where
  pub prepared : Prepared own v n c l
  pub commits : (j : ℕ) → Among j (active v) → ¬ (j ≡ own) → Among (commit v n j c) l

-- Decided: by a certificate, or by votes in one view.
abbrev pub Decided : (own v n c : ℕ) → List Deed → Type 0
Decided own v n c l = Among (certificate n v c) l ⊎ Settled own v n c l
