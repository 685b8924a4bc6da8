-- A round that nothing disturbs: one lead, its two orders, then four prepares and six commits.
use Rattle.std.specs.Prelude.{◌≡◌, ℕ, ◌≤◌, true, false, ◌⊎◌, List, [], ◌∷◌, ◌++◌, length, Some, Ok}
use Rattle.agreement.specs.Lists.{Among}
use Rattle.packet.specs.Statements.{decode, statement}
use Rattle.packet.specs.declared.kinds.Kind.{Kind}
use Rattle.packet.specs.declared.kinds.Kind.TheVariants.{Order, Prepare, Commit, Report, Wish, Checkpoint, Answer}
use Rattle.proof.specs.Roles.{primary, active, backups}
use Rattle.slots.specs.Cores.{is_open, record_at}
use Rattle.promise.specs.Steps.{Setting, Call, lead, take}
use Rattle.promise.specs.Histories.{Event, Written, written, Correct, now}

-- backups prepare, active replicas commit
abbrev pub VotesBy : Kind → (v j : ℕ) → Type 0
VotesBy Order v j = ⊥
VotesBy Prepare v j = Among j (backups v)
VotesBy Commit v j = Among j (active v)
VotesBy Report v j = ⊥
VotesBy Wish v j = ⊥
VotesBy Checkpoint v j = ⊥
VotesBy Answer v j = ⊥

-- the call takes bytes that read as j's vote of this kind
abbrev pub Hands : Kind → (j v n c : ℕ) → List ℕ → Call → Type 0
Hands vote j v n c p call = (call ≡ take p) × ((t : ℕ) × (decode p ≡ Some (statement vote j v n 0 c t)))

module _ {State : Type 0} where
  -- the reply space is large enough
  abbrev pub Roomy : Event State → Type 0
  Roomy e = 390 ≤ length e.reply

  -- j's vote is handed to replica i in one of these calls
  pub record Delivered (vote : Kind) (i j v n c : ℕ) (es : List (Event State)) : Type 0 where
    pub event : Event State
    pub stands : Among event es
    pub own : event.who ≡ i
    pub bytes : List ℕ
    pub hands : Hands vote j v n c bytes event.call

  -- one vote is handed to another active replica, once, after its signer wrote it
  pub record Delivery (v n c : ℕ) (before : List (Event State)) (es : List (Event State)) (e : Event State) : Type 0 where
    pub vote : Kind
    pub signer : ℕ
    pub votes : VotesBy vote v signer
    pub receives : Among e.who (active v)
    pub other : ¬ (signer ≡ e.who)
    pub bytes : List ℕ
    pub hands : Hands vote signer v n c bytes e.call
    pub wrote : Written signer bytes before
    pub once : ¬ Delivered vote e.who signer v n c es
    pub roomy : Roomy e

  -- deliveries after what came before, the newest first
  pub data Deliveries (v n c : ℕ) (base : List (Event State)) : List (Event State) → Type 0 where
    start : Deliveries v n c base []
    next : {es : List (Event State)} → Deliveries v n c base es → (e : Event State) → Delivery v n c (es ++ base) es e → Deliveries v n c base (e ∷ es)

-- AN UNDISTURBED ROUND after h: in view v the active replicas are correct, in v, and have slot n open and unordered. An
-- accepted lead of c, its packet to both backups, then each prepare and commit once to every other active replica.
pub record Round {State : Type 0} (k : Setting State) (v n c : ℕ) (h H : List (Event State)) : Type 0 where
  pub correct : (i : ℕ) → Among i (active v) → Correct k i
  pub in_view : (i : ℕ) → Among i (active v) → (now k i h).core.view.0 ≡ v
  pub opened : (i : ℕ) → Among i (active v) → is_open (now k i h).core n ≡ true
  pub unordered : (i : ℕ) → Among i (active v) → (record_at (now k i h).core n).ordered ≡ false
  pub leads : Event State
  pub leader : leads.who ≡ primary v
  pub proof : List ℕ
  pub led : leads.call ≡ lead n c proof
  pub count : ℕ
  pub accepted : leads.answer ≡ Ok count
  pub first : Event State
  pub second : Event State
  pub both : (i : ℕ) → Among i (backups v) → (first.who ≡ i) ⊎ (second.who ≡ i)
  pub first_backup : Among first.who (backups v)
  pub second_backup : Among second.who (backups v)
  pub differ : ¬ (second.who ≡ first.who)
  pub first_order : first.call ≡ take (written leads)
  pub second_order : second.call ≡ take (written leads)
  pub first_roomy : Roomy first
  pub second_roomy : Roomy second
  pub deliveries : List (Event State)
  pub whole : H ≡ deliveries ++ (second ∷ first ∷ leads ∷ h)
  pub each : Deliveries v n c (second ∷ first ∷ leads ∷ h) deliveries
  pub complete : (vote : Kind) (i j : ℕ) → Among i (active v) → VotesBy vote v j → ¬ (j ≡ i) → Delivered vote i j v n c deliveries
