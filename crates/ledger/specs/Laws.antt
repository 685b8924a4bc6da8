-- The rules that a replica keeps by writing its pages so.
use Rattle.std.specs.Prelude.{◌≡◌, ℕ, ◌<◌, ◌≤◌, List, Some}
use Rattle.agreement.specs.Lists.{Among}
use Rattle.ledger.specs.Sheets.{Point, Sheet, Deed, order, report, Did, Prepared, Decided}

-- of what replica own did, and its sheet then
pub record Good (own : ℕ) (l : List Deed) (s : Sheet) : Type 0 where
  -- It accepts one order for each view and slot, so that it has one vote there,
  pub one_order : (v n c c' : ℕ) → Among (order v n c) l → Among (order v n c') l → c ≡ c'
  -- and none in view 0.
  pub viewed : (v n c : ℕ) → Among (order v n c) l → 1 ≤ v
  -- A report for view v leaves nothing out: if the slot is ever prepared in a view u below v, before the report or after
  -- it, then the report names u or a later view.
  pub all_reported : (u v n c e c' : ℕ) → Prepared own u n c l → Among (report v n e c') l → u < v → u ≤ e
  -- A report makes nothing up: what it names was prepared.
  pub was_prepared : (v n e c : ℕ) → Among (report v n e c) l → 0 < e → Prepared own e n c l
  -- What stands as decided was decided,
  pub decided : (n : ℕ) (q : Point) → (s.page n).decided ≡ Some q → Decided own q.view n q.command l
  -- and a slot that was decided has a decision down until it is collected.
  pub known : (v n c : ℕ) → Decided own v n c l → s.floor < n → (q : Point) × ((s.page n).decided ≡ Some q)

abbrev pub RulesKept : Type 0
RulesKept = (own : ℕ) (l : List Deed) (s : Sheet) → Did own l s → Good own l s
