-- A function's code, and what is so of every one.
use Rattle.std.specs.Prelude.{◌≡◌, ℕ, ◌≤◌, ◌==◌, nat_le, nat_lt, nat_eq, Bool, true, false, not, ◌&&◌, ◌||◌, IsTrue}
use Rattle.std.specs.Prelude.{List, [], ◌∷◌, ◌++◌, length, map, filter, flat_map, Option, None, Some}
use Rattle.std.specs.List.{list_all, list_any, range_with_len}
use Rattle.std.specs.Cmp.Lexicographic.{pointwise}
use Rattle.gossa_base.specs.declared.ids.BlockId.{BlockId}
use Rattle.ssa_ir.specs.declared.types.Sig.{Sig}
use Rattle.ssa_ir.specs.ArgumentPlaces.{argument_words}
use Rattle.ssa_ir.specs.Edges.{same_block}
use Rattle.listing.specs.declared.line.Line.{Line}
use Rattle.listing.specs.declared.line.Line.TheVariants.{Label, Op as Compute, Move, Nil, Branch, BitBranch, Jump, Call}
use Rattle.listing.specs.declared.line.Place.{Place}
use Rattle.listing.specs.declared.line.Place.TheVariants.{Reg, Out, Arg, Const, Addr}

-- a function's code: its signature, the number of registers that it may use, the symbols that its lines name, the
-- lines, and how many outgoing words and argument words it has
pub record CodeParts : Type 0 where
  pub sig : Sig
  pub regs : ℕ
  pub syms : List (List ℕ)
  pub lines : List Line
  pub out : ℕ
  pub arg_words : ℕ

-- the register of a place
abbrev pub place_register : Place → List ℕ
place_register (Reg r) = r ∷ []
place_register _ = []

-- the symbol of an address, by its number
abbrev pub place_symbol : Place → List ℕ
place_symbol (Addr s) = s ∷ []
place_symbol _ = []

-- the outgoing word of a place
abbrev pub place_outgoing : Place → List ℕ
place_outgoing (Out j) = j ∷ []
place_outgoing _ = []

-- the argument word of a place
abbrev pub place_argument : Place → List ℕ
place_argument (Arg j) = j ∷ []
place_argument _ = []

-- the register of an operand, where it is there
abbrev pub present : Option ℕ → List ℕ
present None = []
present (Some r) = r ∷ []

-- the registers that a line names
abbrev pub line_registers : Line → List ℕ
line_registers (Label b held) = map (λ h. h.0) held
line_registers (Compute op aux o note) = present o.dst ++ (present o.a ++ present o.b)
line_registers (Move to from note) = place_register to ++ place_register from
line_registers (Nil r note) = r ∷ []
line_registers (BitBranch set r b) = r ∷ []
line_registers _ = []

-- the symbols that a line names, by their numbers
abbrev pub line_symbols : Line → List ℕ
line_symbols (Move to from note) = place_symbol to ++ place_symbol from
line_symbols (Call s map note) = s ∷ []
line_symbols _ = []

-- the outgoing words that a line names
abbrev pub line_outgoing : Line → List ℕ
line_outgoing (Move to from note) = place_outgoing to ++ place_outgoing from
line_outgoing _ = []

-- the argument words that a line names
abbrev pub line_arguments : Line → List ℕ
line_arguments (Move to from note) = place_argument to ++ place_argument from
line_arguments _ = []

-- the block that a line begins
abbrev pub line_label : Line → List BlockId
line_label (Label b held) = b ∷ []
line_label _ = []

-- the block that a line goes to
abbrev pub line_target : Line → List BlockId
line_target (Branch c b) = b ∷ []
line_target (BitBranch set r b) = b ∷ []
line_target (Jump b) = b ∷ []
line_target _ = []

-- R0 to R17 and R19 to R27
abbrev pub is_register : ℕ → Bool
is_register r = nat_le r 17 || (nat_le 19 r && nat_le r 27)

-- whether a place is a register
abbrev pub is_in_register : Place → Bool
is_in_register (Reg r) = true
is_in_register _ = false

-- whether a word can be put there
abbrev pub is_writable : Place → Bool
is_writable (Const c) = false
is_writable (Addr s) = false
is_writable _ = true

-- whether a line, if it is a move, goes from a register or to one, and to no constant or address
abbrev pub moves_by_register : Line → Bool
moves_by_register (Move to from note) = is_writable to && (is_in_register to || is_in_register from)
moves_by_register _ = true

-- numbers in order, each where it stands first
abbrev pub firsts : List ℕ → List ℕ
firsts [] = []
firsts (n ∷ ns) = n ∷ filter (λ m. not (m == n)) (firsts ns)

-- whether no item is the same as one behind it
abbrev pub all_differ : {A : Type 0} → (A → A → Bool) → List A → Bool
all_differ same [] = true
all_differ same (x ∷ xs) = not (list_any (same x) xs) && all_differ same xs

-- what is so of every code
pub record IsCode (c : CodeParts) : Type 0 where
  -- the lines name exactly the symbols of the table, which has them in the order of the first lines that name them
  pub symbols_in_order : firsts (flat_map line_symbols c.lines) ≡ range_with_len 0 (length c.syms)
  pub symbols_there : IsTrue (list_all (λ s. nat_lt s (length c.syms)) (flat_map line_symbols c.lines))
  -- and has each once
  pub symbols_once : IsTrue (all_differ (pointwise nat_eq) c.syms)
  pub registers_enough : 4 ≤ c.regs
  pub registers_few : c.regs ≤ 24
  pub registers_there : IsTrue (list_all is_register (flat_map line_registers c.lines))
  pub moves : IsTrue (list_all moves_by_register c.lines)
  pub outgoing_there : IsTrue (list_all (λ j. nat_lt j c.out) (flat_map line_outgoing c.lines))
  pub argument_count : c.arg_words ≡ argument_words c.regs c.sig
  pub arguments_there : IsTrue (list_all (λ j. nat_lt j c.arg_words) (flat_map line_arguments c.lines))
  pub labels_once : IsTrue (all_differ same_block (flat_map line_label c.lines))
  -- every block that a line goes to has a label
  pub targets_there : IsTrue
      (list_all (λ b. list_any (same_block b) (flat_map line_label c.lines)) (flat_map line_target c.lines))
