-- The record of a slot: the order accepted in the present view, its votes, the latest prepared certificate and the decision's.
use Rattle.std.specs.Prelude.{ℕ, Bool, true, false, cond, not, ◌&&◌, List, ◌∷◌, map, replicate, Some, None, Option, ◌==◌, slice_index, slice_index_or, slice_set}
use Rattle.proof.specs.Roles.{active, backups, every}
use Rattle.slots.specs.declared.records.Certificate.{Certificate}
use Rattle.slots.specs.declared.records.Record.{Record}
use Rattle.slots.specs.declared.records.Votes.{Votes}

-- nobody's vote is held
abbrev pub no_votes : Votes
no_votes = record { held = replicate 4 false; seals = replicate 4 0 }

-- whether signer j's vote is held, and its seal
abbrev pub has : Votes → ℕ → Bool
has votes j = slice_index_or votes.held j false

abbrev pub seal_of : Votes → ℕ → ℕ
seal_of votes j = slice_index votes.seals j

abbrev pub with_vote : Votes → (j t : ℕ) → Votes
with_vote votes j t = record { held = slice_set votes.held j true; seals = slice_set votes.seals j t }

-- a certificate of view v for command c under three seals
abbrev pub certificate : (v c : ℕ) → List ℕ → Certificate
certificate v c ts = record { view = record { 0 = v }; command = c; seals = ts }

-- view 0 has none
abbrev pub no_certificate : Certificate
no_certificate = certificate 0 0 (replicate 3 0)

abbrev pub is_there : Certificate → Bool
is_there x = not (x.view.0 == 0)

abbrev pub if_there : Certificate → Option Certificate
if_there x = cond (is_there x) (Some x) None

-- nothing is held of the slot
abbrev pub blank : Record
blank = record { ordered = false; command = 0; seal = 0; prepares = no_votes; commits = no_votes; prepared = no_certificate; decided = no_certificate }

-- the command of the accepted order
abbrev pub order_of : Record → Option ℕ
order_of r = cond r.ordered (Some r.command) None

abbrev pub with_order : Record → (c t : ℕ) → Record
with_order r c t = record { ordered = true; command = c; seal = t; prepares = r.prepares; commits = r.commits; prepared = r.prepared; decided = r.decided }

abbrev pub with_prepare : Record → (j t : ℕ) → Record
with_prepare r j t = record { ordered = r.ordered; command = r.command; seal = r.seal; prepares = with_vote r.prepares j t; commits = r.commits; prepared = r.prepared; decided = r.decided }

abbrev pub with_commit : Record → (j t : ℕ) → Record
with_commit r j t = record { ordered = r.ordered; command = r.command; seal = r.seal; prepares = r.prepares; commits = with_vote r.commits j t; prepared = r.prepared; decided = r.decided }

abbrev pub with_prepared : Record → Certificate → Record
with_prepared r x = record { ordered = r.ordered; command = r.command; seal = r.seal; prepares = r.prepares; commits = r.commits; prepared = x; decided = r.decided }

abbrev pub with_decision : Record → Certificate → Record
with_decision r x = record { ordered = r.ordered; command = r.command; seal = r.seal; prepares = r.prepares; commits = r.commits; prepared = r.prepared; decided = x }

-- orders and votes belong to a view, certificates stay
abbrev pub dropped : Record → Record
dropped r = record { ordered = false; command = 0; seal = 0; prepares = no_votes; commits = no_votes; prepared = r.prepared; decided = r.decided }

-- both prepares of view v are held
abbrev pub all_prepared : (v : ℕ) → Record → Bool
all_prepared v r = every (has r.prepares) (backups v)

-- the certificate of the order and its prepares: the order's seal and the backups' seals by rising number
abbrev pub prepared_in : (v : ℕ) → Record → Record
prepared_in v r = with_prepared r (certificate v r.command (r.seal ∷ map (seal_of r.prepares) (backups v)))

-- all three commits of view v are held
abbrev pub all_committed : (v : ℕ) → Record → Bool
all_committed v r = every (has r.commits) (active v)

-- once all three commits are held the slot is decided, unless it was: the first decision stays
abbrev pub settled : (v : ℕ) → Record → Record
settled v r = cond (not (is_there r.decided) && all_committed v r) (with_decision r (certificate v r.command (map (seal_of r.commits) (active v)))) r

-- the slot is prepared in view v, and the own commit is one of the three
abbrev pub confirmed : (own v t : ℕ) → Record → Record
confirmed own v t r = settled v (with_commit (prepared_in v r) own t)
