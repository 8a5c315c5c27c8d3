-- The first takers of memories, one value more.
use Rattle.std.proofs.Common.{◌≡◌, ℕ, ◌+◌, ◌==◌, ◌<◌, true, false, if◌then◌else◌, List, length, get_or, take, Option}
use Rattle.std.proofs.Common.{None}
use Rattle.std.proofs.Common.{Some, sym, ap, ◌∙◌, arith}
use Rattle.std.proofs.lemmas.Bool.{eqb-true}
use Rattle.std.proofs.lemmas.Option.{slice_get_within}
use Rattle.gossa_base.specs.declared.ids.ValueId.{ValueId}
use Rattle.ssa_ir.specs.declared.func.Value.{Value}
use Rattle.ssa_ir.specs.FirstOrder.{memory_taken, same_memory}
use Rattle.gossa_base.proofs.ListPlaces.{At, first_at}
use Rattle.block_order.specs.tables.ItemGraph.{first_taker, takes_memory}
use Rattle.block_order.proofs.FirstTables.{first_comes, first_stays}

pub taker_within : (block : List Value) (m : ValueId) (f : ℕ) → first_taker block m ≡ Some f → f < length block
taker_within block m f h =
    let found : (i : ℕ) × (v : Value) × (f ≡ 0 + i) × At block i v × (takes_memory m v ≡ true) =
    first_at (takes_memory m) 0 block f h in
    omega (arith, found.2, slice_get_within block found.0 found.1 found.3)

pub same_taker : (values : List Value) (m n : ValueId) → m.0 ≡ n.0 → first_taker values m ≡ first_taker values n
same_taker values m n same = ap (λ (k : ValueId). first_taker values k) (λ i. record { 0 = same i })

-- a value that takes no memory changes nothing
pub no_taker : (values : List Value) (i : ℕ) (d : Value) (m : ValueId) (before : Option ℕ) → i < length values
    → None ≡ memory_taken (get_or values i d).op (get_or values i d).args → before ≡ first_taker (take i values) m
    → before ≡ first_taker (take (i + 1) values) m
no_taker values i d m before within none old =
    first_stays (takes_memory m) values i d before within
    (λ e. let clash : false ≡ true = ap (λ o. same_memory o (Some m)) none ∙ e in cc) old

-- nor does one whose memory has a taker
pub old_taker : (values : List Value) (i : ℕ) (d : Value) (m n : ValueId) (before : Option ℕ) (k : ℕ)
    → i < length values
    → Some n ≡ memory_taken (get_or values i d).op (get_or values i d).args → first_taker (take i values) n ≡ Some k
    → before ≡ first_taker (take i values) m → before ≡ first_taker (take (i + 1) values) m
old_taker values i d m n before k within taken has old =
    first_stays (takes_memory m) values i d before within
    (λ e. (
      k,
      sym (same_taker (take i values) n m (eqb-true n.0 m.0 (ap (λ o. same_memory o (Some m)) taken ∙ e)))
          ∙ has,
    )) old

-- a value whose memory has no taker is its first
pub new_taker : (values : List Value) (i : ℕ) (d : Value) (m n : ValueId) (before : Option ℕ) → i < length values
    → Some n ≡ memory_taken (get_or values i d).op (get_or values i d).args → first_taker (take i values) n ≡ None
    → before ≡ first_taker (take i values) m
    → (if n.0 == m.0 then Some i else before) ≡ first_taker (take (i + 1) values) m
new_taker values i d m n before within taken none old =
    first_comes (takes_memory m) values i d before (n.0 == m.0) within
    (sym (ap (λ o. same_memory o (Some m)) taken))
    (λ e. sym (same_taker (take i values) n m (eqb-true n.0 m.0 e)) ∙ none) old
