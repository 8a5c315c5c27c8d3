-- The code of the plain allocation has what every code has.
use Rattle.std.proofs.Common.{◌≡◌, ℕ, ℤ, zero, suc, ◌+◌, ◌≤◌, Bool, true, false, ◌&&◌, ◌||◌, cond, eqb, ltb, leb, List}
use Rattle.std.proofs.Common.{[], ◌∷◌, ◌++◌, length, map, replicate, Option, None, Some, slice_get, IsTrue, refl, sym}
use Rattle.std.proofs.Common.{ap, subst, ◌∙◌, arith}
use Rattle.std.specs.List.{flat_map, list_all, list_any}
use Rattle.std.proofs.lemmas.Bool.Decides.{nat_tests}
use Rattle.std.proofs.lemmas.List.{length-replicate}
use Rattle.std.proofs.lemmas.List.Folds.{list_all-append}
use Rattle.gossa_base.specs.declared.ids.BlockId.{BlockId}
use Rattle.gossa_base.specs.declared.ids.ValueId.{ValueId}
use Rattle.ssa_ir.specs.declared.op.Op.{Op}
use Rattle.ssa_ir.specs.declared.op.Op.TheVariants.{Arg, Const, Add}
use Rattle.ssa_ir.specs.declared.types.Scalar.{Scalar}
use Rattle.ssa_ir.specs.declared.types.Scalar.TheVariants.{I64}
use Rattle.ssa_ir.specs.declared.func.Block.{Block}
use Rattle.ssa_ir.specs.declared.func.Func.{Func}
use Rattle.ssa_ir.specs.declared.func.Value.{Value}
use Rattle.ssa_ir.specs.ArgumentPlaces.{word_behind, argument_words}
use Rattle.ssa_ir.specs.Edges.{same_block}
use Rattle.listing.specs.CodeFacts.{IsCode, line_registers, line_symbols, line_outgoing, line_arguments, line_label}
use Rattle.listing.specs.CodeFacts.{line_target, is_register, moves_by_register, firsts, all_differ}
use Rattle.listing.specs.declared.line.Line.{Line}
use Rattle.listing.specs.declared.line.Line.TheVariants.{Label, Move, Ret}
use Rattle.listing.specs.declared.line.Note.{Note}
use Rattle.listing.specs.declared.line.Note.TheVariants.{Spill, Load, Results}
use Rattle.listing.specs.declared.line.Place.{Place}
use Rattle.listing.specs.declared.line.Place.TheVariants.{Reg, Out, Arg as ArgWord, Frame, Home, Const as Constant}
use Rattle.listing.specs.declared.line.Place.TheVariants.{Addr}
use Rattle.sum_compile.specs.Narrow.{narrow_sig, Step, TakeArg, MakeConst, AddTwo, vid, step_value, values_from}
use Rattle.sum_compile.specs.Narrow.{block_of, func_of, StepsFit, IsAbove, Narrow}
use Rattle.sum_compile.specs.Plain.{home_word, place_by_op, place_of_value, place_of, value_named, parameter, held_then}
use Rattle.sum_compile.specs.Plain.{parameters_from, spill_line, load_line, sum_lines, value_lines, plain_listing}
use Rattle.sum_compile.proofs.NarrowLemmas.{one_block}
use Rattle.sum_compile.proofs.NarrowRun.{narrow_order}
use Rattle.sum_compile.proofs.PlacedLemmas.{values_of, place_of_step}
use Rattle.sum_compile.proofs.PlainRun.{inner_lines, lines_are, all_registers}
use Rattle.sum_compile.proofs.SpillFacts.{taken_from, below_test}

-- a line that names registers of the machine, but no symbol, no outgoing or argument word, and no block
pub record IsPlain (line : Line) : Type 0 where
  pub symbols : line_symbols line ≡ []
  pub registers : IsTrue (list_all is_register (line_registers line))
  pub moves : IsTrue (moves_by_register line)
  pub outgoing : line_outgoing line ≡ []
  pub arguments : line_arguments line ≡ []
  pub label : line_label line ≡ []
  pub target : line_target line ≡ []

plain : (line : Line) → line_symbols line ≡ [] → IsTrue (list_all is_register (line_registers line))
    → IsTrue (moves_by_register line) → line_outgoing line ≡ [] → line_arguments line ≡ [] → line_label line ≡ []
    → line_target line ≡ [] → IsPlain line
plain line symbols registers moves outgoing arguments label target =
    record {
      symbols = symbols;
      registers = registers;
      moves = moves;
      outgoing = outgoing;
      arguments = arguments;
      label = label;
      target = target;
    }

abbrev AllPlain : List Line → Type 0
AllPlain [] = Unit {0}
AllPlain (line ∷ lines) = IsPlain line × AllPlain lines

plain_append : (xs ys : List Line) → AllPlain xs → AllPlain ys → AllPlain (xs ++ ys)
plain_append [] ys p q = q
plain_append (x ∷ xs) ys p q = (p.0, plain_append xs ys p.1 q)

-- what no such line names, they all do not
none_named : {A : Type 0} (f : Line → List A) → ((line : Line) → IsPlain line → f line ≡ []) → (lines : List Line)
    → AllPlain lines → flat_map f lines ≡ []
none_named f none [] h = refl
none_named f none (line ∷ lines) h = ap (λ xs. xs ++ flat_map f lines) (none line h.0) ∙ none_named f none lines h.1

registers_plain : (lines : List Line) → AllPlain lines → IsTrue (list_all is_register (flat_map line_registers lines))
registers_plain [] h = refl
registers_plain (line ∷ lines) h =
    list_all-append is_register (line_registers line) (flat_map line_registers lines)
    ∙ ap (λ b. b && list_all is_register (flat_map line_registers lines)) h.0.registers ∙ registers_plain lines h.1

moves_plain : (lines : List Line) → AllPlain lines → IsTrue (list_all moves_by_register lines)
moves_plain [] h = refl
moves_plain (line ∷ lines) h = ap (λ b. b && list_all moves_by_register lines) h.0.moves ∙ moves_plain lines h.1

-- the first registers are the machine's
low_register : (r : ℕ) → r ≤ 17 → is_register r ≡ true
low_register r le = ap (λ b. b || (leb 19 r && leb r 27)) (within r le)
  where
    within : (r : ℕ) → r ≤ 17 → leb r 17 ≡ true
    within r le = grind (arith, nat_tests)

-- a place of a value: a word of the frame, a home or a constant
abbrev is_own : Place → Bool
is_own (Frame i) = true
is_own (Home v) = true
is_own (Constant c) = true
is_own _ = false

own_by_op : (word : ℕ) (id : ValueId) (aux : ℤ) (op : Op) → IsTrue (is_own (place_by_op word id aux op))
own_by_op word id aux Arg = refl
own_by_op word id aux (Const w) = refl
own_by_op word id aux (Add w) = refl
own_by_op word id aux _ = refl

own_by_value : (values : List Value) (id : ValueId) (o : Option Value) → IsTrue (is_own (place_of_value values id o))
own_by_value values id None = refl
own_by_value values id (Some v) = own_by_op (home_word values id.0) id v.aux v.op

own_place : (values : List Value) (id : ValueId) → IsTrue (is_own (place_of values id))
own_place values id = own_by_value values id (value_named values id)

-- a load is plain
load_is_plain : (r : ℕ) (from : Place) (note : Note) → is_register r ≡ true → IsTrue (is_own from)
    → IsPlain (Move (Reg r) from note)
load_is_plain r (Reg q) note ok own = cc
load_is_plain r (Out j) note ok own = cc
load_is_plain r (ArgWord j) note ok own = cc
load_is_plain r (Frame i) note ok own =
    plain _ refl (ap (λ b. b && true) ok) refl refl refl refl refl
load_is_plain r (Home v) note ok own =
    plain _ refl (ap (λ b. b && true) ok) refl refl refl refl refl
load_is_plain r (Constant c) note ok own =
    plain _ refl (ap (λ b. b && true) ok) refl refl refl refl refl
load_is_plain r (Addr s) note ok own = cc

-- a value that stands in the frame
pub record InFrame (at : ValueId → Place) (id : ValueId) : Type 0 where
  pub word : ℕ
  pub stands : at id ≡ Frame word

-- a spill into the frame is plain
spill_is_plain : (at : ValueId → Place) (r : ℕ) (id : ValueId) → is_register r ≡ true → InFrame at id
    → IsPlain (spill_line at (r, id))
spill_is_plain at r id ok here =
    subst (λ to. IsPlain (Move to (Reg r) (Spill id))) (sym here.stands)
    (record {
      symbols = refl;
      registers = ap (λ b. b && true) ok;
      moves = refl;
      outgoing = refl;
      arguments = refl;
      label = refl;
      target = refl;
    })

spilled_then : (steps : List Step) (r j : ℕ) (o : Option ValueId) (rest : List (ℕ × ValueId))
    → parameter (values_of steps r) j ≡ o → j ≤ 17
    → AllPlain (map (spill_line (place_of (values_of steps r))) rest)
    → AllPlain (map (spill_line (place_of (values_of steps r))) (held_then j o rest))
spilled_then steps r j None rest p le all = all
spilled_then steps r j (Some id) rest p le all =
    let at = place_of (values_of steps r) in
    let taken = taken_from 2 steps r j id p in
    let here : InFrame at id = record {
      word = home_word (values_of steps r) (2 + taken.place);
      stands = ap at taken.named ∙ place_of_step steps r taken.place (TakeArg j) taken.step;
    } in
    (spill_is_plain at j id (low_register j le) here, all)

-- the spills of parameters are plain
spills_plain : (steps : List Step) (r j : ℕ) (types : List Scalar) → j + length types ≤ 16
    → AllPlain (map (spill_line (place_of (values_of steps r))) (parameters_from (values_of steps r) j types))
spills_plain steps r j [] few = tt
spills_plain steps r j (t ∷ types) few =
    spilled_then steps r j (parameter (values_of steps r) j) _ refl (omega arith)
    (spills_plain steps r (suc j) types (omega arith))

held_register : (j : ℕ) (o : Option ValueId) (rest : List (ℕ × ValueId)) → j ≤ 17
    → IsTrue (list_all is_register (map (λ h. h.0) rest))
    → IsTrue (list_all is_register (map (λ h. h.0) (held_then j o rest)))
held_register j None rest le all = all
held_register j (Some id) rest le all =
    ap (λ b. b && list_all is_register (map (λ (h : ℕ × ValueId). h.0) rest)) (low_register j le) ∙ all

-- parameters stand in registers of the machine
held_registers : (values : List Value) (j : ℕ) (types : List Scalar) → j + length types ≤ 16
    → IsTrue (list_all is_register (map (λ h. h.0) (parameters_from values j types)))
held_registers values j [] few = refl
held_registers values j (t ∷ types) few =
    held_register j (parameter values j) (parameters_from values (suc j) types) (omega arith)
    (held_registers values (suc j) types (omega arith))

-- a sum is plain
sum_is_plain : (at : ValueId → Place) (id : ValueId) (second : ℕ) → is_register second ≡ true → InFrame at id
    → AllPlain (sum_lines at id second)
sum_is_plain at id second ok here = (
  record {
    symbols = refl;
    registers = ap (λ b. b && true) ok;
    moves = refl;
    outgoing = refl;
    arguments = refl;
    label = refl;
    target = refl;
  },
  (spill_is_plain at 0 id refl here, tt),
)

add_is_plain : (at : ValueId → Place) (id a b : ValueId) (t : Bool) → ((v : ValueId) → IsTrue (is_own (at v)))
    → InFrame at id
    → AllPlain (cond t (load_line at 0 a ∷ sum_lines at id 0) (load_line at 0 a ∷ load_line at 1 b ∷ sum_lines at id 1))
add_is_plain at id a b true own here = (load_is_plain 0 (at a) (Load a) refl (own a), sum_is_plain at id 0 refl here)
add_is_plain at id a b false own here = (
  load_is_plain 0 (at a) (Load a) refl (own a),
  (load_is_plain 1 (at b) (Load b) refl (own b), sum_is_plain at id 1 refl here),
)

-- the lines of the values from number n on are plain
sums_plain : (at : ValueId → Place) (n : ℕ) (steps : List Step) (r : ℕ) → ((v : ValueId) → IsTrue (is_own (at v)))
    → ((i a b : ℕ) → slice_get steps i ≡ Some (AddTwo a b) → InFrame at (vid (n + i)))
    → AllPlain (flat_map (value_lines at) (values_from n steps r))
sums_plain at n [] r own stands = tt
sums_plain at n (TakeArg q ∷ steps) r own stands =
    sums_plain at (suc n) steps r own (λ i a b e. subst (λ k. InFrame at (vid k)) (omega arith) (stands (suc i) a b e))
sums_plain at n (MakeConst c ∷ steps) r own stands =
    sums_plain at (suc n) steps r own (λ i a b e. subst (λ k. InFrame at (vid k)) (omega arith) (stands (suc i) a b e))
sums_plain at n (AddTwo a b ∷ steps) r own stands =
    plain_append (value_lines at (step_value n (AddTwo a b))) (flat_map (value_lines at) (values_from (suc n) steps r))
    (add_is_plain at (vid n) (vid a) (vid b) (eqb a b) own
    (subst (λ k. InFrame at (vid k)) (omega arith) (stands 0 a b refl)))
    (sums_plain at (suc n) steps r own
    (λ i x y e. subst (λ k. InFrame at (vid k)) (omega arith) (stands (suc i) x y e)))

-- the lines behind the label are plain
behind_label : (params : List Scalar) (steps : List Step) (r : ℕ) → length params ≤ 16
    → AllPlain (inner_lines params steps r ++ Ret ∷ [])
behind_label params steps r few =
    let at = place_of (values_of steps r) in
    let spills = map (spill_line at) (parameters_from (values_of steps r) 0 params) in
    let sums = flat_map (value_lines at) (values_of steps r) in
    let result = load_is_plain 0 (at (vid r)) Results refl (own_place (values_of steps r) (vid r)) in
    let summed : AllPlain sums =
    sums_plain at 2 steps r (own_place (values_of steps r))
    (λ i a b e. record {
      word = home_word (values_of steps r) (2 + i);
      stands = place_of_step steps r i (AddTwo a b) e;
    }) in
    plain_append (spills ++ (sums ++ Move (Reg 0) (at (vid r)) Results ∷ [])) (Ret ∷ [])
    (plain_append spills (sums ++ Move (Reg 0) (at (vid r)) Results ∷ []) (spills_plain steps r 0 params (omega arith))
    (plain_append sums (Move (Reg 0) (at (vid r)) Results ∷ []) summed (result, tt))) (
      record {
        symbols = refl;
        registers = refl;
        moves = refl;
        outgoing = refl;
        arguments = refl;
        label = refl;
        target = refl;
      },
      tt,
    )

-- parameters that registers hold take no argument word
words_behind : (a t w q : ℕ) → t + q ≤ a → word_behind a t w (replicate q I64) ≡ w
words_behind a t w zero fits = refl
words_behind a t w (suc q) fits =
    ap (λ b. cond b (word_behind a (t + 1) w (replicate q I64)) (word_behind a t (w + 1) (replicate q I64)))
    (below_test t a (omega arith))
    ∙ words_behind a (t + 1) w q (omega arith)

no_argument_words : (name : List ℕ) (params regs : ℕ) → 16 ≤ regs → params ≤ 16
    → argument_words regs (narrow_sig name params) ≡ 0
no_argument_words name params regs many few =
    ap (λ a. word_behind a 0 (word_behind a 0 0 (replicate params I64)) (I64 ∷ [])) (all_registers regs many)
    ∙ ap (λ w. word_behind 16 0 w (I64 ∷ [])) (words_behind 16 0 0 params (omega arith))

-- the facts of a code with these lines: a label with these registers, and then plain ones
facts_of_lines : (name : List ℕ) (params regs : ℕ) (id : BlockId) (held : List (ℕ × ValueId)) (lines : List Line)
    → 16 ≤ regs → regs ≤ 24 → params ≤ 16
    → IsTrue (list_all is_register (map (λ h. h.0) held)) → AllPlain lines
    → IsCode (record {
      sig = narrow_sig name params;
      regs = regs;
      syms = [];
      lines = Label id held
          ∷ lines;
      out = 0;
      arg_words = 0;
    })
facts_of_lines name params regs id held lines many most few registers plain =
    let symbols = none_named line_symbols (λ line h. h.symbols) lines plain in
    let outgoing = none_named line_outgoing (λ line h. h.outgoing) lines plain in
    let arguments = none_named line_arguments (λ line h. h.arguments) lines plain in
    let labels = none_named line_label (λ line h. h.label) lines plain in
    let targets = none_named line_target (λ line h. h.target) lines plain in
    record {
      symbols_in_order = ap firsts symbols;
      symbols_there = ap (list_all (λ s. ltb s 0)) symbols;
      symbols_once = refl;
      registers_enough = omega arith;
      registers_few = most;
      registers_there =
          list_all-append is_register (map (λ (h : ℕ × ValueId). h.0) held) (flat_map line_registers lines)
          ∙ ap (λ b. b && list_all is_register (flat_map line_registers lines)) registers ∙ registers_plain lines plain;
      moves = moves_plain lines plain;
      outgoing_there = ap (list_all (λ j. ltb j 0)) outgoing;
      argument_count = sym (no_argument_words name params regs many few);
      arguments_there = ap (list_all (λ j. ltb j 0)) arguments;
      labels_once = ap (λ l. all_differ same_block (id ∷ l)) labels;
      targets_there =
          ap (list_all (λ b. list_any (same_block b) (flat_map line_label (Label id held ∷ lines)))) targets;
    }

-- the code of the function that steps make
steps_code : (name : List ℕ) (params regs : ℕ) (steps : List Step) (r : ℕ) → 16 ≤ regs → regs ≤ 24 → params ≤ 16
    → StepsFit params 2 steps → IsAbove (length steps + 2) r
    → IsCode (plain_listing regs (func_of name params steps r)).code
steps_code name params regs steps r many most few fits above =
    let types = replicate params I64 in
    let long : length types ≤ 16 = omega (arith, length-replicate {A = Scalar} params I64) in
    let held = parameters_from (values_of steps r) 0 types in
    subst (λ lines. IsCode
    (record { sig = narrow_sig name params; regs = regs; syms = []; lines = lines; out = 0; arg_words = 0 }))
    (sym (lines_are types steps r (narrow_order params steps r fits above)))
    (facts_of_lines name params regs (block_of steps r).id held (inner_lines types steps r ++ Ret ∷ []) many most few
    (held_registers (values_of steps r) 0 types (omega arith)) (behind_label types steps r long))

-- the code of a narrow function
pub narrow_code_facts : (f : Func) (h : Narrow f) (regs : ℕ) → 16 ≤ regs → regs ≤ 24
    → IsCode (plain_listing regs f).code
narrow_code_facts f h regs many most =
    subst (λ g. IsCode (plain_listing regs g).code) (sym h.made)
    (steps_code f.sig.name h.params regs h.steps h.returned many most h.few_params h.fit h.result)

-- the same, by its one block
pub block_code_facts : (f : Func) (h : Narrow f) (regs : ℕ) (b : Block) → b ≡ block_of h.steps h.returned → 16 ≤ regs
    → regs ≤ 24
    → IsCode (plain_listing regs (record { sig = f.sig; blocks = b ∷ [] })).code
block_code_facts f h regs b e many most =
    subst (λ bs. IsCode (plain_listing regs (record { sig = f.sig; blocks = bs })).code)
    (one_block f h ∙ ap (λ x. x ∷ []) (sym e)) (narrow_code_facts f h regs many most)
