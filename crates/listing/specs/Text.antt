-- The canonical text of listings.
use Rattle.std.specs.Prelude.{ℕ, ℤ, ◌+◌, ◌*◌, Bool, true, false, if◌then◌else◌, List, [], ◌∷◌, ◌++◌, codes, decimal}
use Rattle.std.specs.Prelude.{Option, None, Some, slice_index_or}
use Rattle.std.specs.Fmt.{signed_decimal}
use Rattle.std.specs.List.{flat_map}
use Rattle.gossa_base.specs.declared.ids.BlockId.{BlockId}
use Rattle.gossa_base.specs.declared.ids.ValueId.{ValueId}
use Rattle.gossa_base.specs.Texts.{led, value_text, block_text}
use Rattle.ssa_ir.specs.declared.op.Op.{Op}
use Rattle.ssa_ir.specs.declared.op.Op.TheVariants.{Arm64ADD}
use Rattle.ssa_ir.specs.declared.op.CondCode.{CondCode}
use Rattle.ssa_ir.specs.declared.op.CondCode.TheVariants.{EQ, NE, LT, LE, GT, GE, LO, LS, HI, HS}
use Rattle.ssa_ir.specs.Texts.{newline, sig_text, sig_line}
use Rattle.listing.specs.declared.line.Line.{Line}
use Rattle.listing.specs.declared.line.Line.TheVariants.{Label, Op as Compute, Move, Nil, Branch, BitBranch, Jump, Call}
use Rattle.listing.specs.declared.line.Line.TheVariants.{Ret, Exit}
use Rattle.listing.specs.declared.line.Note.{Note}
use Rattle.listing.specs.declared.line.Note.TheVariants.{Bare, Value, Spill, Load, Edge, Args, Results}
use Rattle.listing.specs.declared.line.Operands.{Operands}
use Rattle.listing.specs.declared.line.Place.{Place}
use Rattle.listing.specs.declared.line.Place.TheVariants.{Reg, Out, Arg, Frame, Home, Const, Addr}
use Rattle.listing.specs.declared.code.Code.{Code}
use Rattle.listing.specs.declared.code.Map.{Map}
use Rattle.listing.specs.declared.code.Listing.{Listing}
use Rattle.listing.specs.declared.code.Listings.{Listings}
use Rattle.listing.specs.Frame.{frame_size, frame_offset}

-- a register, as R3
abbrev pub reg_text : ℕ → List ℕ
reg_text r = codes "R" ++ decimal r

-- an absent register has no text
abbrev pub reg_or_none : Option ℕ → List ℕ
reg_or_none None = []
reg_or_none (Some r) = reg_text r

-- a symbol, by its number; one that isn't there has no text
abbrev pub sym_text : List (List ℕ) → ℕ → List ℕ
sym_text syms i = slice_index_or syms i []

-- a word of the frame, by its offset from RSP
abbrev pub stack_text : ℕ → List ℕ
stack_text offset = decimal offset ++ codes "(RSP)"

-- a place, in code with these outgoing words and symbols; a home has no text
abbrev pub place_text : (out : ℕ) (syms : List (List ℕ)) → Place → List ℕ
place_text out syms (Reg r) = reg_text r
place_text out syms (Out j) = stack_text (frame_offset 0 j)
place_text out syms (Arg j) = decimal (8 * j) ++ codes "(FP)"
place_text out syms (Frame i) = stack_text (frame_offset out i)
place_text out syms (Home v) = []
place_text out syms (Const c) = codes "$" ++ signed_decimal c
place_text out syms (Addr s) = codes "$" ++ (sym_text syms s ++ codes "(SB)")

-- a note, with what parts it from the line
abbrev pub note_text : Note → List ℕ
note_text Bare = []
note_text (Value v) = codes " // " ++ value_text v
note_text (Spill v) = codes " // spill " ++ value_text v
note_text (Load v) = codes " // load " ++ value_text v
note_text Edge = codes " // edge"
note_text Args = codes " // args"
note_text Results = codes " // results"

-- a condition's letters
abbrev pub cond_text : CondCode → List ℕ
cond_text EQ = codes "EQ"
cond_text NE = codes "NE"
cond_text LT = codes "LT"
cond_text LE = codes "LE"
cond_text GT = codes "GT"
cond_text GE = codes "GE"
cond_text LO = codes "LO"
cond_text LS = codes "LS"
cond_text HI = codes "HI"
cond_text HS = codes "HS"

-- three registers: the second argument's, the first argument's, the result's
abbrev pub three_regs : Operands → List ℕ
three_regs o = reg_or_none o.b ++ (codes ", " ++ (reg_or_none o.a ++ (codes ", " ++ reg_or_none o.dst)))

-- a computing line; of the machine's ops only the sum has a text yet
abbrev pub op_text : Op → ℤ → Operands → List ℕ
op_text Arm64ADD aux o = codes "ADD " ++ three_regs o
op_text _ aux o = []

-- a register and the value in it, as R0=v2
abbrev pub held_text : ℕ × ValueId → List ℕ
held_text (r, v) = reg_text r ++ (codes "=" ++ value_text v)

-- the test of a bit
abbrev pub bit_test_text : Bool → List ℕ
bit_test_text true = codes "TBNZ $0, "
bit_test_text false = codes "TBZ $0, "

-- a label, with the registers that hold a value there
abbrev pub label_text : BlockId → List (ℕ × ValueId) → List ℕ
label_text b regs = block_text b ++ (codes ":" ++ led (codes " ") held_text regs)

-- a computing line, with its note
abbrev pub computing_text : Op → ℤ → Operands → Note → List ℕ
computing_text op aux o note = op_text op aux o ++ note_text note

-- a move, from its source to its place
abbrev pub move_text : (out : ℕ) (syms : List (List ℕ)) (to from : Place) → Note → List ℕ
move_text out syms to from note =
    codes "MOVD " ++ (place_text out syms from ++ (codes ", " ++ (place_text out syms to ++ note_text note)))

-- a check for nil
abbrev pub nil_check_text : ℕ → Note → List ℕ
nil_check_text r note = codes "NILCHECK " ++ (reg_text r ++ note_text note)

-- a branch on the flags
abbrev pub branch_text : CondCode → BlockId → List ℕ
branch_text c b = codes "B" ++ (cond_text c ++ (codes " " ++ block_text b))

-- a branch on a bit of a register
abbrev pub bit_branch_text : (set : Bool) → ℕ → BlockId → List ℕ
bit_branch_text set r b = bit_test_text set ++ (reg_text r ++ (codes ", " ++ block_text b))

-- a jump
abbrev pub jump_text : BlockId → List ℕ
jump_text b = codes "JMP " ++ block_text b

-- a call, by the number of its map
abbrev pub call_text : (syms : List (List ℕ)) (symbol map : ℕ) → Note → List ℕ
call_text syms s map note =
    codes "CALL " ++ (sym_text syms s ++ (codes "(SB), map=" ++ (decimal map ++ note_text note)))

-- a line, without its end
abbrev pub line_text : (out : ℕ) (syms : List (List ℕ)) → Line → List ℕ
line_text out syms (Label b regs) = label_text b regs
line_text out syms (Compute op aux o note) = computing_text op aux o note
line_text out syms (Move to from note) = move_text out syms to from note
line_text out syms (Nil r note) = nil_check_text r note
line_text out syms (Branch c b) = branch_text c b
line_text out syms (BitBranch set r b) = bit_branch_text set r b
line_text out syms (Jump b) = jump_text b
line_text out syms (Call s map note) = call_text syms s map note
line_text out syms Ret = codes "RET"
line_text out syms Exit = codes "EXIT"

-- bits, word 0 first, or a dash where there is none
abbrev pub bit_text : Bool → List ℕ
bit_text b = if b then codes "1" else codes "0"

abbrev pub bits_text : List Bool → List ℕ
bits_text [] = codes "-"
bits_text (b ∷ bits) = flat_map bit_text (b ∷ bits)

-- the line of map k
abbrev pub map_line : (k : ℕ) → Map → List ℕ
map_line k m =
    codes "MAP "
    ++ (decimal k ++ ((codes " args=" ++ bits_text m.args) ++ ((codes " locals=" ++ bits_text m.locals) ++ newline)))

-- the maps, numbered from k
abbrev pub maps_text : (k : ℕ) → List Map → List ℕ
maps_text k [] = []
maps_text k (m ∷ maps) = map_line k m ++ maps_text (k + 1) maps

-- a number behind its name
abbrev pub field_text : List ℕ → ℕ → List ℕ
field_text name n = name ++ decimal n

-- the size of the frame, and its words by their kind
abbrev pub frame_text : Listing → List ℕ
frame_text l =
    field_text (codes ", frame=") (frame_size l) ++ (field_text (codes ", out=") l.code.out
    ++ (field_text (codes ", ptr=") l.ptr ++ field_text (codes ", scalar=") l.scalar))

-- a function's first line
abbrev pub head_text : Listing → List ℕ
head_text l =
    codes "TEXT " ++ (sig_text l.code.sig ++ (frame_text l ++ (field_text (codes ", regs=") l.code.regs ++ newline)))

-- a line of this code, with its end
abbrev pub whole_line : Code → Line → List ℕ
whole_line c line = line_text c.out c.syms line ++ newline

-- the lines of code, each with its end
abbrev pub lines_text : Code → List ℕ
lines_text c = flat_map (whole_line c) c.lines

-- a function's listing
abbrev pub listing_text : Listing → List ℕ
listing_text l = head_text l ++ (maps_text 0 l.maps ++ lines_text l.code)

-- the listings of a unit
abbrev pub listings_text : Listings → List ℕ
listings_text l = flat_map sig_line l.sigs ++ flat_map listing_text l.funcs
