-- What the steps of a grammar show of what they give, one after the other.
use Rattle.std.proofs.Common.{◌≡◌, Bool, true, false, Option, None, Some, IfSome, if◌then◌else◌, refl}
use Rattle.ssa_lines.specs.Steps.{◌>>=◌, only_where}

-- a step that is taken shows a fact, which the next one goes on from
pub then_shown : {A B : Type 0} {Q : A → Type 0} (P : B → Type 0) (o : Option A) (f : A → Option B) → IfSome o Q
    → ((a : A) → Q a → IfSome (f a) P) → IfSome (o >>= f) P
then_shown P None f h next = tt
then_shown P (Some a) f h next = next a h

-- a step of which nothing has to be known
pub then_any : {A B : Type 0} (P : B → Type 0) (o : Option A) (f : A → Option B) → ((a : A) → IfSome (f a) P)
    → IfSome (o >>= f) P
then_any P None f next = tt
then_any P (Some a) f next = next a

-- what both branches show
pub either_shown : {A : Type 0} (P : A → Type 0) (b : Bool) (x y : Option A) → IfSome x P → IfSome y P
    → IfSome (if b then x else y) P
either_shown P true x y at_true at_false = at_true
either_shown P false x y at_true at_false = at_false

-- a test that is passed answers true
pub only_where_true : (b : Bool) → IfSome (only_where b) (λ t. b ≡ true)
only_where_true true = refl
only_where_true false = tt
