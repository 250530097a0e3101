use Rattle.std.specs.Prelude.{◌≡◌, ℕ, ◌<◌, ◌≤◌, Bool, ◌⊎◌}
use Rattle.facts.specs.declared.fact.Kind.{Kind}
use Rattle.facts.specs.declared.fact.Kind.TheVariants.{UserRole, RoleConflict, PermissionRole, PermissionConflict, TaskRole, TaskConflict}
use Rattle.facts.specs.Facts.{Facts, In, number, fact, size, entries}
use Rattle.facts.specs.Stores.{Only}
use Rattle.rules.specs.declared.change.Change.{Change}
use Rattle.rules.specs.declared.judge.Judgement.{Judgement}
use Rattle.rules.specs.declared.judge.Judgement.TheVariants.{Full, Quick}
use Rattle.rules.specs.declared.role_set.RoleSet.{RoleSet}
use Rattle.rules.specs.declared.rule.Rule.{Rule}
use Rattle.rules.specs.declared.rule.Rule.TheVariants.{NoCycle, RolesApart, PartiesApart, PermissionsApart, TasksApart, TakersApart}
use Rattle.rules.specs.declared.suspects.Suspects.{Suspects}
use Rattle.rules.specs.declared.suspects.Suspects.TheVariants.{All, Nobody, One, Reachers, Holders, Items, TakenBy}
use Rattle.rules.specs.Asking.{Among}
use Rattle.rules.specs.Changes.{after}
use Rattle.rules.specs.Roles.{pair, Reaches, Above, Assigned, Holds, Conflict, Party}
use Rattle.rules.specs.Rules.{Keeps}
use Rattle.rules.specs.Tasks.{Open, AtOdds, HasTaken}

-- What the functions of a judgement say to each other. No public contract cites these words.

-- a role of P and a role of Q conflict, or do not, as b says
abbrev pub Meet : (ℕ → Type 0) → (ℕ → Type 0) → Bool → Facts → Type 0
Meet P Q b m = (r : ℕ) × (s : ℕ) × (r < 64) × (s < 64) × P r × Q s × (m (pair RoleConflict r s) ≡ b)

-- two users hold two conflicting roles between them
abbrev pub HoldBoth : Facts → ℕ → ℕ → Type 0
HoldBoth m u v = (s : ℕ) × (t : ℕ) × Conflict RoleConflict m s t × Holds m u s × Holds m v t

-- a pair of the kind c names numbers below the end
abbrev pub Paired : Kind → ℕ → Type 0
Paired c end = (size (entries c).0 ≤ end) × (size (entries c).1 ≤ end)

-- items below the end are assigned to roles by the kind k, and conflict by the kind c
abbrev pub Conflicting : Kind → Kind → ℕ → Type 0
Conflicting k c end = (size (entries k).1 ≤ 64) × Paired c end

-- an item of the kind k conflicts by the kind c with another, and two of their roles do not conflict
abbrev pub Mixed : Kind → Kind → Facts → ℕ → Type 0
Mixed k c m x =
    (y : ℕ) × (r : ℕ) × (s : ℕ) × Conflict c m x y × Assigned k m x r × Assigned k m y s × ¬ (Conflict RoleConflict m r s)

-- what breaks a rule, at one role, user, permission or task
abbrev pub Breaks : Rule → Facts → ℕ → Type 0
Breaks NoCycle m r = Above m r r
Breaks RolesApart m r = (s : ℕ) × (t : ℕ) × Conflict RoleConflict m s t × Reaches m r s × Reaches m r t
Breaks PartiesApart m u = (v : ℕ) × Party m u v × HoldBoth m u v
Breaks PermissionsApart m x = Mixed PermissionRole PermissionConflict m x
Breaks TasksApart m x = Mixed TaskRole TaskConflict m x
Breaks TakersApart m t =
    (q : ℕ) × (c : ℕ) × (u : ℕ) × (v : ℕ) × Open m c × AtOdds m t q × Party m u v × HasTaken m c t u × HasTaken m c q v

-- how many roles, users, permissions or tasks a rule is about
abbrev pub subjects : Rule → ℕ
subjects NoCycle = 64
subjects RolesApart = 64
subjects PartiesApart = 128
subjects PermissionsApart = 64
subjects TasksApart = 32
subjects TakersApart = 32

-- whom a rule has to be looked at for
abbrev pub Suspected : Suspects ℕ → Facts → ℕ → Type 0
Suspected All m x = Unit {0}
Suspected Nobody m x = ⊥
Suspected (One y) m x = x ≡ y
Suspected (Reachers r) m x = (x < 64) × Reaches m x r
Suspected (Holders r) m x = Holds m x r
Suspected (Items k r) m x = Assigned k m x r
Suspected (TakenBy u) m x = (c : ℕ) × Open m c × HasTaken m c x u

-- the same, where the roles that reach the role are known
abbrev pub InScope : Suspects RoleSet → Facts → ℕ → Type 0
InScope All m x = Unit {0}
InScope Nobody m x = ⊥
InScope (One y) m x = x ≡ y
InScope (Reachers above) m x = Among above x
InScope (Holders above) m x = (s : ℕ) × (s < 64) × (Among above s × Assigned UserRole m x s)
InScope (Items k r) m x = Assigned k m x r
InScope (TakenBy u) m x = (c : ℕ) × (c < 32) × (Open m c × HasTaken m c x u)

pub record Scoped (σ : Suspects ℕ) (τ : Suspects RoleSet) (m : Facts) : Type 0 where
  pub only : (x : ℕ) → InScope τ m x → Suspected σ m x
  pub all : (x : ℕ) → Suspected σ m x → InScope τ m x

-- what breaks a rule, by B, after the change does so at a suspect, or something broke it before
abbrev pub EnoughBy : (Facts → ℕ → Type 0) → Change → Suspects ℕ → Type 0
EnoughBy B c σ =
    (m : Facts) → Only (after m c) → (x : ℕ)
    → B (after m c) x → ((y : ℕ) × Suspected σ (after m c) y × B (after m c) y) ⊎ ((y : ℕ) × B m y)

abbrev pub Enough : Rule → Change → Suspects ℕ → Type 0
Enough ρ = EnoughBy (Breaks ρ)

abbrev pub EnoughItems : Kind → Kind → Change → Suspects ℕ → Type 0
EnoughItems k c = EnoughBy (Mixed k c)

-- what a judgement rests on: a quick one on that the rule held before
abbrev pub Held : Judgement → Rule → Facts → Type 0
Held Full ρ m = Unit {0}
Held Quick ρ m = Keeps ρ m

-- what breaks the rule after the change does so at a suspect
abbrev pub Finding : Judgement → Rule → Change → Suspects ℕ → Type 0
Finding j ρ c σ =
    (m : Facts) → Only (after m c) → Held j ρ m → (x : ℕ)
    → Breaks ρ (after m c) x → (y : ℕ) × Suspected σ (after m c) y × Breaks ρ (after m c) y

-- the change adds, or removes, no fact of the kind
abbrev pub GainsNone : Kind → Change → Type 0
GainsNone k c = (m : Facts) (x y z : ℕ) → In (after m c) (fact (number k) x y z) → In m (fact (number k) x y z)

abbrev pub LosesNone : Kind → Change → Type 0
LosesNone k c = (m : Facts) (x y z : ℕ) → In m (fact (number k) x y z) → In (after m c) (fact (number k) x y z)
