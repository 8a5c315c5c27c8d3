-- Values of reached blocks, no phis, that take each other in a circle: each block of the circle lies on every path to
-- each other one, so they are one block, and the items of the values are on a cycle of it.
use Rattle.std.proofs.Common.{◌≡◌, ℕ, zero, suc, ◌<◌, inl, inr, Bool, true, false, List, [], ◌∷◌, ◌++◌, length, Option}
use Rattle.std.proofs.Common.{None, Some, slice_get, refl, subst, sym, ap, ◌∙◌, arith}
use Rattle.std.specs.List.{All, Any, Contains}
use Rattle.std.proofs.lemmas.Bool.{both_ways}
use Rattle.std.proofs.lemmas.List.Elements.{All-cons, All-head, All-nil, All-push, All-tail}
use Rattle.gossa_base.specs.declared.ids.ValueId.{ValueId}
use Rattle.ssa_ir.specs.declared.func.Block.{Block}
use Rattle.ssa_ir.specs.declared.func.Func.{Func}
use Rattle.ssa_ir.specs.declared.func.SsaUnit.{SsaUnit}
use Rattle.ssa_ir.specs.declared.func.Value.{Value}
use Rattle.ssa_ir.specs.FirstOrder.{has_value, same_value}
use Rattle.ssa_ir.specs.OpKinds.{is_call, is_follower, is_phi}
use Rattle.ssa_ir.specs.WellFormed.{WellFormedFunc}
use Rattle.ssa_check.specs.declared.refusal.At.TheVariants.{Value as AtValue}
use Rattle.ssa_check.specs.declared.refusal.Check.TheVariants.{Arity, Cycle, Undefined}
use Rattle.ssa_ir.specs.Cycles.{IsWalk, OnCycle, leaders, stands_before}
use Rattle.ssa_check.specs.Failing.{MeetsAll}
use Rattle.block_order.specs.LowestOnCycle.{HasItems}
use Rattle.block_order.specs.tables.ItemGraph.{call_named, is_index, owner, owner_of}
use Rattle.accepted_laws.specs.PathLaws.{AreTaken, DefinedBeforeUse, IsReachedValue, NoCircle, NothingCircles}
use Rattle.accepted_laws.specs.PathLaws.{takes_value}
use Rattle.ssa_ir.specs.Paths.{IsPath, Reached}
use Rattle.ssa_check.proofs.CyclePlaces.{has_items}
use Rattle.accepted_laws.proofs.DefinedLemmas.{defined_before_use, meets_all, some_of, well_formed_func}
use Rattle.block_order.proofs.ItemEdges.{Takes, some_is_index}
use Rattle.gossa_base.proofs.ListPlaces.{At, Found, any_at, at_contains, contains_at, find_any, same_at}
use Rattle.block_order.proofs.ItemOwners.{IsLeader, Names, Owns, call_no_follower, call_no_phi, equal_numbers}
use Rattle.block_order.proofs.ItemOwners.{item_leader}
use Rattle.block_order.proofs.ItemOwners.{itself, names_from, of_call, owner_call, owner_found, owner_has}
use Rattle.block_order.proofs.ItemOwners.{owner_is_item}
use Rattle.block_order.proofs.ItemOwners.{owner_itself, owns_from, same_index, same_numbers, same_standing, select_arg}
use Rattle.block_order.proofs.ItemStands.{stands_by_taking}

-- ---- blocks that lie on every path to another one

abbrev Somewhere : {X : Type 0} → List X → X → Type 0
Somewhere xs x = (k : ℕ) × At xs k x

-- a block lies on every path to another one
abbrev LiesBefore : Func → Block → Block → Type 0
LiesBefore f c b = (before : List Block) → IsPath f (b ∷ before) → Somewhere (b ∷ before) c

-- a path up to a block of it: its blocks are of the whole, and it is no longer
record Front (f : Func) (path : List Block) (c : Block) : Type 0 where
  before : List Block
  is_path : IsPath f (c ∷ before)
  keeps : (d : Block) → Somewhere (c ∷ before) d → Somewhere path d
  shorter : length before < length path

path_to : (f : Func) (b : Block) (before : List Block) (i : ℕ) (c : Block) → IsPath f (b ∷ before) → At (b ∷ before) i c
    → Front f (b ∷ before) c
path_to f b before zero c path at =
    let same : b ≡ c = cc in
    record {
      before = before;
      is_path = subst (λ x. IsPath f (x ∷ before)) same path;
      keeps = λ d there. subst (λ x. Somewhere (x ∷ before) d) (sym same) there;
      shorter = omega arith;
    }
path_to f b [] (suc i) c path at = cc
path_to f b (a ∷ before) (suc i) c path at = longer (path_to f a before i c path.2 at)
  where
    later : (d : Block) → Somewhere (a ∷ before) d → Somewhere (b ∷ a ∷ before) d
    later d (k, there) = (suc k, there)

    longer : Front f (a ∷ before) c → Front f (b ∷ a ∷ before) c
    longer front = record {
      before = front.before;
      is_path = front.is_path;
      keeps = λ d there. later d (front.keeps d there);
      shorter = omega (arith, front.shorter);
    }

-- what lies before a block that lies before another one lies before that one
before_all : (f : Func) (d c b : Block) → LiesBefore f d c → LiesBefore f c b → LiesBefore f d b
before_all f d c b first second before path =
    let at : Somewhere (b ∷ before) c = second before path in
    let front : Front f (b ∷ before) c = path_to f b before at.0 c path at.1 in
    front.keeps d (first front.before front.is_path)

-- two blocks, each on every path to the other, are one: else a path to one has a shorter one to the other within it
one_of_two : (n : ℕ) (f : Func) (b c : Block) → LiesBefore f c b → LiesBefore f b c → (before : List Block)
    → length before < n → IsPath f (b ∷ before) → b ≡ c
one_of_two zero f b c first second before short path = absurd (omega (arith, short))
one_of_two (suc n) f b c first second before short path =
    by_place (one_of_two n f c b second first) before short path (first before path)
  where
    by_place : ((front : List Block) → length front < n → IsPath f (c ∷ front) → c ≡ b) → (before : List Block)
        → length before < suc n → IsPath f (b ∷ before) → Somewhere (b ∷ before) c → b ≡ c
    by_place again before short path (zero, at) = let same : b ≡ c = cc in same
    by_place again [] short path (suc i, at) = cc
    by_place again (a ∷ before) short path (suc i, at) =
        let front : Front f (a ∷ before) c = path_to f a before i c path.2 at in
        sym (again front.before (omega (arith, short, front.shorter)) front.is_path)

same_blocks : (f : Func) (b c : Block) → LiesBefore f c b → LiesBefore f b c → Reached f b → b ≡ c
same_blocks f b c first second reached =
    one_of_two (suc (length reached.before)) f b c first second reached.before (omega arith) reached.is_path

path_blocks : (f : Func) (path : List Block) → IsPath f path → (i : ℕ) (b : Block) → At path i b → Contains f.blocks b
path_blocks f [] path i b at = cc
path_blocks f (a ∷ []) path zero b at = let same : a ≡ b = cc in subst (Contains f.blocks) same path.0
path_blocks f (a ∷ []) path (suc i) b at = cc
path_blocks f (a ∷ c ∷ before) path zero b at = let same : a ≡ b = cc in subst (Contains f.blocks) same path.0
path_blocks f (a ∷ c ∷ before) path (suc i) b at = path_blocks f (c ∷ before) path.2 i b at

-- the argument by which a value takes another one
taken_by : (v w : Value) → takes_value v w ≡ true → (id : ValueId) × Contains v.args id × (id.0 ≡ w.id.0)
taken_by v w takes = from_found (find_any (λ id. same_value id w.id) v.args takes)
  where
    from_found : Found (λ id. same_value id w.id) v.args → (id : ValueId) × Contains v.args id × (id.0 ≡ w.id.0)
    from_found (k, id, at, same) = (id, at_contains v.args k id at, same_numbers id w.id same)

stands_in : (values : List Value) (w : Value) (id : ValueId) → Contains values w → id.0 ≡ w.id.0
    → has_value values id ≡ true
stands_in values w id there same =
    let place : Somewhere values w = contains_at values w there in
    any_at (λ v. same_value v.id id) values place.0 w place.1 (equal_numbers w.id id (sym same))

-- a value of a block that is no Phi
record StandsIn (block : List Value) (v : Value) : Type 0 where
  there : Contains block v
  no_phi : is_phi v.op ≡ false

moved : {f : Func} (v : Value) (x : IsReachedValue f v) (b : Block) → x.block ≡ b → StandsIn b.values v
moved v x b same = record { there = subst (λ (c : Block). Contains c.values v) same x.stands; no_phi = x.no_phi }

module _ (f : Func) (defined : DefinedBeforeUse f) where
  -- the block of what a value takes lies before its own
  takes_before : (v w : Value) (x : IsReachedValue f v) (y : IsReachedValue f w) → takes_value v w ≡ true
      → LiesBefore f y.block x.block
  takes_before v w x y takes before path =
      from_found (find_any (λ e. has_value e.values id) (x.block ∷ before)
      (defined.argument x.block v id x.is_block x.stands x.no_phi arg.1 before path))
    where
      arg : (id : ValueId) × Contains v.args id × (id.0 ≡ w.id.0)
      arg = taken_by v w takes

      id : ValueId
      id = arg.0

      from_found : Found (λ e. has_value e.values id) (x.block ∷ before) → Somewhere (x.block ∷ before) y.block
      from_found (i, e, at, has) =
          let one : e ≡ y.block
          = defined.once e y.block id (path_blocks f (x.block ∷ before) path i e at) y.is_block has
          (stands_in y.block.values w id y.stands arg.2) in
          (i, subst (At (x.block ∷ before) i) one at)

  -- the block of the last of values that take each other lies before that of the first
  all_before : (v : Value) (rest : List Value) (last : Value) (x : IsReachedValue f v) → All (IsReachedValue f) rest
      → (z : IsReachedValue f last) → AreTaken v rest last → LiesBefore f z.block x.block
  all_before v [] last x all z taken = takes_before v last x z taken
  all_before v (w ∷ rest) last x all z taken =
      let y : IsReachedValue f w = All-head (IsReachedValue f) w rest all in
      before_all f z.block y.block x.block
      (all_before w rest last y (All-tail (IsReachedValue f) w rest all) z taken.1) (takes_before v w x y taken.0)

  -- values of a circle stand in the block of one of them, where the block of the first lies on every path to it
  in_one : (u : Value) (z : IsReachedValue f u) (v : Value) (rest : List Value) (x : IsReachedValue f v)
      → All (IsReachedValue f) rest → LiesBefore f x.block z.block → AreTaken v rest u
      → All (StandsIn z.block.values) (v ∷ rest)
  in_one u z v [] x all first taken =
      All-cons (StandsIn z.block.values) v []
      (moved v x z.block (same_blocks f x.block z.block (takes_before v u x z taken) first x.reached))
      (All-nil (StandsIn z.block.values))
  in_one u z v (w ∷ rest) x all first taken =
      let y : IsReachedValue f w = All-head (IsReachedValue f) w rest all in
      All-cons (StandsIn z.block.values) v (w ∷ rest)
      (moved v x z.block (same_blocks f x.block z.block (all_before v (w ∷ rest) u x all z taken) first x.reached))
      (in_one u z w rest y (All-tail (IsReachedValue f) w rest all)
      (before_all f y.block x.block z.block (takes_before v w x y taken.0) first) taken.1)

-- ---- items of one block

-- a walk of items from one to another one
record Walk (block : List Value) (first last : Value) : Type 0 where
  rest : List Value
  are_items : All (Contains (leaders block)) rest
  is_walk : IsWalk block first rest last

-- one more step
walk_then : (block : List Value) (x : Value) (rest : List Value) (y z : Value) → IsWalk block x rest y
    → stands_before block y z ≡ true → IsWalk block x (rest ++ y ∷ []) z
walk_then block x [] y z walk step = (walk, step)
walk_then block x (w ∷ rest) y z walk step = (walk.0, walk_then block w rest y z walk.1 step)

-- a value of a block and the first value of its item
record Led (block : List Value) (v : Value) : Type 0 where
  index : ℕ
  at : At block index v
  place : ℕ
  owned : owner_of block index v ≡ Some place
  leader : Value
  leads : IsLeader block place leader

-- the item of what a value takes stands before its own; but a select is of the item of the call that it takes
data Step (block : List Value) (v w leader_v leader_w : Value) : Type 0 where
  stands : stands_before block leader_w leader_v ≡ true → Step block v w leader_v leader_w
  within : leader_w ≡ leader_v → is_follower v.op ≡ true → is_call w.op ≡ true → Step block v w leader_v leader_w

-- the same of values that take each other
data Along (block : List Value) (v last leader_v leader_last : Value) : Type 0 where
  walked : Walk block leader_last leader_v → Along block v last leader_v leader_last
  staying : leader_last ≡ leader_v → is_follower v.op ≡ true → is_call last.op ≡ true
      → Along block v last leader_v leader_last

module _ (block : List Value) (has : HasItems block) where
  led : (v : Value) → StandsIn block v → Led block v
  led v stands_in = by_name (contains_at block v stands_in.there) (is_follower v.op) refl (call_named block v.args) refl
    where
      owned_by : (i : ℕ) → At block i v → (o : ℕ) → owner_of block i v ≡ Some o → Led block v
      owned_by i at o own =
          let item : (x : Value) × IsLeader block o x = owner_is_item block has o i v at own in
          record { index = i; at = at; place = o; owned = own; leader = item.0; leads = item.1 }

      by_name : Somewhere block v → (b : Bool) → is_follower v.op ≡ b → (c : Option ℕ) → call_named block v.args ≡ c
          → Led block v
      by_name (i, at) false e c named = owned_by i at i (owner_itself block has i v stands_in.no_phi (inl e))
      by_name (i, at) true e None named = owned_by i at i (owner_itself block has i v stands_in.no_phi (inr named))
      by_name (i, at) true e (Some c) named = owned_by i at c (owner_call block has i c v e named)

  -- the item of a call is its own
  call_leads : (w : Value) (y : Led block w) → is_call w.op ≡ true → y.place ≡ y.index
  call_leads w y call =
      let own : owner_of block y.index w ≡ Some y.index
      = owner_itself block has y.index w (call_no_phi w.op call) (inl (call_no_follower w.op call)) in
      let e : Some y.place ≡ Some y.index = sym y.owned ∙ own in
      cc

  step : (v w : Value) (x : Led block v) (y : Led block w) → takes_value v w ≡ true → Step block v w x.leader y.leader
  step v w x y takes = by_argument (find_any (λ id. same_value id w.id) v.args takes)
    where
      by_itself : (k : ℕ) (id : ValueId) → At v.args k id → id.0 ≡ w.id.0 → x.place ≡ x.index
          → Step block v w x.leader y.leader
      by_itself k id at same here =
          let one : v ≡ x.leader
          = same_at block x.index v x.leader x.at (ap (slice_get block) (sym here) ∙ x.leads.at) in
          let own : owner block id ≡ Some y.place = owner_found block has y.index w id y.at (sym same) ∙ y.owned in
          let taken : Takes block y.place v
          = any_at (λ a. is_index (owner block a) y.place) v.args k id at
          (some_is_index (owner block id) y.place own) in
          stands (subst (λ (z : Value). stands_before block y.leader z ≡ true) one
          (stands_by_taking block has y.place y.leader v y.leads taken))

      -- the argument of a select is the first
      only : (args : List ValueId) (k : ℕ) (id a b : ValueId) (rest : List ValueId) → At args k id → args ≡ a ∷ []
          → args ≡ b ∷ rest → id ≡ b
      only args zero id a b rest at one first = cc
      only args (suc k) id a b rest at one first =
          let none : slice_get (a ∷ []) (suc k) ≡ Some id
          = sym (ap (λ (l : List ValueId). slice_get l (suc k)) one) ∙ at in
          cc

      by_call : (k : ℕ) (id : ValueId) → At v.args k id → id.0 ≡ w.id.0 → is_follower v.op ≡ true
          → Names block has v.args x.place → Step block v w x.leader y.leader
      by_call k id at same follows (a, rest, args, call, there, number, is_its) =
          let arg : (b : ValueId) × (v.args ≡ b ∷ []) = select_arg block has x.index v x.at follows in
          let named : id ≡ a = only v.args k id arg.0 a rest at arg.1 args in
          let numbers : w.id.0 ≡ call.id.0 = sym same ∙ ap (λ (z : ValueId). z.0) named ∙ sym number in
          let one : call ≡ w = sym (same_standing block has y.index x.place w call y.at there numbers) in
          let calls : is_call w.op ≡ true = subst (λ (z : Value). is_call z.op ≡ true) one is_its in
          let place : y.place ≡ x.place
          = call_leads w y calls ∙ same_index block has y.index x.place w call y.at there numbers in
          within (same_at block x.place y.leader x.leader (ap (slice_get block) (sym place) ∙ y.leads.at) x.leads.at)
          follows calls

      by_owner : (k : ℕ) (id : ValueId) → At v.args k id → id.0 ≡ w.id.0 → Owns block x.place x.index v
          → Step block v w x.leader y.leader
      by_owner k id at same (itself here no_phi own) = by_itself k id at same here
      by_owner k id at same (of_call follows named) =
          by_call k id at same follows (names_from block has v.args x.place named)

      by_argument : Found (λ id. same_value id w.id) v.args → Step block v w x.leader y.leader
      by_argument (k, id, at, same) =
          by_owner k id at (same_numbers id w.id same) (owns_from block has x.place x.index v x.owned)

  one_step : (v w x y : Value) → Step block v w x y → Along block v w x y
  one_step v w x y (stands before) =
      walked (record { rest = []; are_items = All-nil (Contains (leaders block)); is_walk = before })
  one_step v w x y (within same follows call) = staying same follows call

  -- a step in front: the last of the values stays
  step_more : (v w last x y z : Value) → Contains (leaders block) y → Step block v w x y → Along block w last y z
      → Along block v last x z
  step_more v w last x y z leads (stands before) (walked walk) =
      walked (record {
        rest = walk.rest ++ y ∷ [];
        are_items = All-push (Contains (leaders block)) walk.rest y walk.are_items leads;
        is_walk = walk_then block z walk.rest y x walk.is_walk before;
      })
  step_more v w last x y z leads (stands before) (staying same follows call) =
      walked (record {
        rest = [];
        are_items = All-nil (Contains (leaders block));
        is_walk = subst (λ (u : Value). stands_before block u x ≡ true) (sym same) before;
      })
  step_more v w last x y z leads (within same follows call) (walked walk) =
      walked (subst (Walk block z) same walk)
  step_more v w last x y z leads (within same follows call) (staying also again end) =
      absurd (both_ways (is_follower w.op) (call_no_follower w.op call) again)

  along : (v : Value) (rest : List Value) (last : Value) (x : Led block v) → All (StandsIn block) rest
      → (z : Led block last) → AreTaken v rest last → Along block v last x.leader z.leader
  along v [] last x all z taken = one_step v last x.leader z.leader (step v last x z taken)
  along v (w ∷ rest) last x all z taken =
      let y : Led block w = led w (All-head (StandsIn block) w rest all) in
      step_more v w last x.leader y.leader z.leader (item_leader block has y.place y.leader y.leads)
      (step v w x y taken.0)
      (along w rest last y (All-tail (StandsIn block) w rest all) z taken.1)

  circle_on_cycle : (v : Value) (rest : List Value) → All (StandsIn block) (v ∷ rest) → AreTaken v rest v
      → OnCycle block v
  circle_on_cycle v rest all taken =
      by_walk (along v rest v x (All-tail (StandsIn block) v rest all) x taken)
    where
      x : Led block v
      x = led v (All-head (StandsIn block) v rest all)

      by_walk : Along block v v x.leader x.leader → OnCycle block v
      by_walk (walked walk) = record {
        leader = x.leader;
        is_of_item =
            owner_has block has x.place x.leader v.id x.leads
            (owner_found block has x.index v v.id x.at refl ∙ x.owned);
        cycle = record {
          rest = walk.rest;
          are_items =
              All-cons (Contains (leaders block)) x.leader walk.rest
              (item_leader block has x.place x.leader x.leads) walk.are_items;
          is_walk = walk.is_walk;
        };
      }
      by_walk (staying same follows call) = absurd (both_ways (is_follower v.op) (call_no_follower v.op call) follows)

-- ---- the law

no_circle : (u : SsaUnit) (f : Func) → WellFormedFunc f → MeetsAll u f → NoCircle f
no_circle u f well meets v rest all taken =
    meets Cycle (AtValue v.id)
    (some_of (λ (b : Block). Any (λ (w : Value). (w.id ≡ v.id) × OnCycle b.values w) b.values) f.blocks x.block
    x.is_block
    (some_of (λ (w : Value). (w.id ≡ v.id) × OnCycle x.block.values w) x.block.values v x.stands (refl, on_cycle)))
  where
    x : IsReachedValue f v
    x = All-head (IsReachedValue f) v rest all

    place : (k : ℕ) × At f.blocks k x.block
    place = contains_at f.blocks x.block x.is_block

    on_cycle : OnCycle x.block.values v
    on_cycle =
        circle_on_cycle x.block.values (has_items u f well (meets Arity) place.0 x.block place.1) v rest
        (in_one f (defined_before_use u f well (meets Undefined)) v x v rest x (All-tail (IsReachedValue f) v rest all)
        (λ before path. (zero, refl)) taken)
        taken

pub nothing_circles : NothingCircles
nothing_circles u f accepted = no_circle u f (well_formed_func u f accepted) (meets_all u f accepted)
