-- The facts of each op, one row an op: what it takes and what it gives, what its brackets or braces hold, what it is to
-- a run, which bytes it moves, and whether it is the machine's. What else is asked of an op follows from its row.
use Rattle.std.specs.Prelude.{ℕ, ◌+◌, ◌&&◌, not, Bool, true, false}
use Rattle.ssa_ir.specs.declared.op.Op.{Op}
use Rattle.ssa_ir.specs.declared.op.Op.TheVariants.{Add, Sub, Mul, And, Or, Xor, Neg, Com, Div, DivU, Mod, ModU, Lsh}
use Rattle.ssa_ir.specs.declared.op.Op.TheVariants.{Rsh, RshU, Eq, Neq, Less, Leq, LessU, LeqU, EqB, NeqB, AndB, OrB}
use Rattle.ssa_ir.specs.declared.op.Op.TheVariants.{Not, EqPtr, NeqPtr, IsNonNil, IsInBounds, IsSliceInBounds, SignExt}
use Rattle.ssa_ir.specs.declared.op.Op.TheVariants.{ZeroExt, Trunc, AddPtr, OffPtr, Load, Store, NilCheck, CondSelect}
use Rattle.ssa_ir.specs.declared.op.Op.TheVariants.{Const, ConstBool, ConstNil, SB, Addr, Phi, Copy, Arg, InitMem}
use Rattle.ssa_ir.specs.declared.op.Op.TheVariants.{StaticLECall, SelectN, MakeResult}
use Rattle.ssa_ir.specs.declared.op.Op.TheVariants.{Arm64MOVDconst, Arm64MOVDaddr, Arm64ADD, Arm64SUB, Arm64AND}
use Rattle.ssa_ir.specs.declared.op.Op.TheVariants.{Arm64OR, Arm64XOR, Arm64MUL, Arm64MULW, Arm64ADDconst}
use Rattle.ssa_ir.specs.declared.op.Op.TheVariants.{Arm64SUBconst, Arm64ANDconst, Arm64ORconst, Arm64XORconst, Arm64NEG}
use Rattle.ssa_ir.specs.declared.op.Op.TheVariants.{Arm64MVN, Arm64DIV, Arm64UDIV, Arm64DIVW, Arm64UDIVW, Arm64MOD}
use Rattle.ssa_ir.specs.declared.op.Op.TheVariants.{Arm64UMOD, Arm64MODW, Arm64UMODW, Arm64SLL, Arm64SRL, Arm64SRA}
use Rattle.ssa_ir.specs.declared.op.Op.TheVariants.{Arm64SLLconst, Arm64SRLconst, Arm64SRAconst, Arm64MOVBreg}
use Rattle.ssa_ir.specs.declared.op.Op.TheVariants.{Arm64MOVHreg, Arm64MOVWreg, Arm64MOVBUreg, Arm64MOVHUreg}
use Rattle.ssa_ir.specs.declared.op.Op.TheVariants.{Arm64MOVWUreg, Arm64CMP, Arm64CMPW, Arm64CMPconst, Arm64CMPWconst}
use Rattle.ssa_ir.specs.declared.op.Op.TheVariants.{Arm64TSTWconst, Arm64Equal, Arm64NotEqual, Arm64LessThan}
use Rattle.ssa_ir.specs.declared.op.Op.TheVariants.{Arm64LessEqual, Arm64GreaterThan, Arm64GreaterEqual, Arm64LessThanU}
use Rattle.ssa_ir.specs.declared.op.Op.TheVariants.{Arm64LessEqualU, Arm64GreaterThanU, Arm64GreaterEqualU, Arm64CSEL}
use Rattle.ssa_ir.specs.declared.op.Op.TheVariants.{Arm64MOVBload, Arm64MOVHload, Arm64MOVWload, Arm64MOVBUload}
use Rattle.ssa_ir.specs.declared.op.Op.TheVariants.{Arm64MOVHUload, Arm64MOVWUload, Arm64MOVDload, Arm64MOVBstore}
use Rattle.ssa_ir.specs.declared.op.Op.TheVariants.{Arm64MOVHstore, Arm64MOVWstore, Arm64MOVDstore}
use Rattle.ssa_ir.specs.declared.op.Op.TheVariants.{Arm64LoweredNilCheck, Arm64CALLstatic}
use Rattle.ssa_ir.specs.declared.op.Arity.{Arity}
use Rattle.ssa_ir.specs.declared.op.Arity.TheVariants.{Exact, Any}
use Rattle.ssa_ir.specs.declared.op.AuxRule.{AuxRule}
use Rattle.ssa_ir.specs.declared.op.AuxRule.TheVariants.{Nothing, Int, Bool as TrueOrFalse, Sym, Elem, Dropped}
use Rattle.ssa_ir.specs.declared.op.Width.{Width}
use Rattle.ssa_ir.specs.declared.op.Width.TheVariants.{W8, W16, W32, W64}
use Rattle.ssa_ir.specs.declared.op_facts.Access.{Access}
use Rattle.ssa_ir.specs.declared.op_facts.Access.TheVariants.{NoBytes, OfType, Unsigned, Signed}
use Rattle.ssa_ir.specs.declared.op_facts.Gives.{Gives}
use Rattle.ssa_ir.specs.declared.op_facts.Gives.TheVariants.{Word, Memory, WordOrMemory, Tuple, Flags, Void}
use Rattle.ssa_ir.specs.declared.op_facts.OpFacts.{OpFacts}
use Rattle.ssa_ir.specs.declared.op_facts.Takes.{Takes}
use Rattle.ssa_ir.specs.declared.op_facts.Takes.TheVariants.{Words, WordsAndMemory, WordsAndFlags, AnyWordsAndMemory}
use Rattle.ssa_ir.specs.declared.op_facts.Takes.TheVariants.{OneAnEdge, ItsCall}
use Rattle.ssa_ir.specs.declared.role.Role.{Role}
use Rattle.ssa_ir.specs.declared.role.Role.TheVariants.{Computes, Compares, TakesParameter, TakesAddress, Loads, Stores}
use Rattle.ssa_ir.specs.declared.role.Role.TheVariants.{ChecksNil, Calls, Rests}

-- ---- kinds of row

abbrev pub generic : Takes → Gives → AuxRule → Role → Access → OpFacts
generic takes gives aux role access =
    record { takes = takes; gives = gives; aux = aux; role = role; access = access; machine = false }

abbrev pub machine : Takes → Gives → AuxRule → Role → Access → OpFacts
machine takes gives aux role access =
    record { takes = takes; gives = gives; aux = aux; role = role; access = access; machine = true }

-- a generic op and one of the machine that compute a word of n words
abbrev pub computes : ℕ → AuxRule → OpFacts
computes n aux = generic (Words n) Word aux Computes NoBytes

abbrev pub machine_computes : ℕ → AuxRule → OpFacts
machine_computes n aux = machine (Words n) Word aux Computes NoBytes

-- one that computes the flags of n words
abbrev pub compares : ℕ → AuxRule → OpFacts
compares n aux = machine (Words n) Flags aux Compares NoBytes

-- one that computes a word of n words and of flags
abbrev pub reads_flags : ℕ → AuxRule → OpFacts
reads_flags n aux = machine (WordsAndFlags n) Word aux Computes NoBytes

-- one that takes bytes from the memory at a pointer and its number
abbrev pub loads : Access → OpFacts
loads access = machine (WordsAndMemory 1) Word Int Loads access

-- one that writes the low bytes of a word at a pointer and its number
abbrev pub stores : Width → OpFacts
stores w = machine (WordsAndMemory 2) Memory Int Stores (Unsigned w)

-- ---- the table

abbrev pub facts : Op → OpFacts
facts (Add w) = computes 2 Nothing
facts (Sub w) = computes 2 Nothing
facts (Mul w) = computes 2 Nothing
facts (And w) = computes 2 Nothing
facts (Or w) = computes 2 Nothing
facts (Xor w) = computes 2 Nothing
facts (Neg w) = computes 1 Nothing
facts (Com w) = computes 1 Nothing
facts (Div w) = computes 2 Dropped
facts (DivU w) = computes 2 Dropped
facts (Mod w) = computes 2 Dropped
facts (ModU w) = computes 2 Dropped
facts (Lsh w) = computes 2 Dropped
facts (Rsh w) = computes 2 Dropped
facts (RshU w) = computes 2 Dropped
facts (Eq w) = computes 2 Nothing
facts (Neq w) = computes 2 Nothing
facts (Less w) = computes 2 Nothing
facts (Leq w) = computes 2 Nothing
facts (LessU w) = computes 2 Nothing
facts (LeqU w) = computes 2 Nothing
facts EqB = computes 2 Nothing
facts NeqB = computes 2 Nothing
facts AndB = computes 2 Nothing
facts OrB = computes 2 Nothing
facts Not = computes 1 Nothing
facts EqPtr = computes 2 Nothing
facts NeqPtr = computes 2 Nothing
facts IsNonNil = computes 1 Nothing
facts IsInBounds = computes 2 Nothing
facts IsSliceInBounds = computes 2 Nothing
facts (SignExt p) = computes 1 Nothing
facts (ZeroExt p) = computes 1 Nothing
facts (Trunc p) = computes 1 Nothing
facts AddPtr = computes 2 Nothing
facts OffPtr = computes 1 Int
facts Load = generic (WordsAndMemory 1) Word Nothing Loads OfType
facts Store = generic (WordsAndMemory 2) Memory Elem Stores OfType
facts NilCheck = generic (WordsAndMemory 1) Word Nothing ChecksNil NoBytes
facts CondSelect = computes 3 Nothing
facts (Const w) = computes 0 Int
facts ConstBool = computes 0 TrueOrFalse
facts ConstNil = computes 0 Nothing
facts SB = computes 0 Nothing
facts Addr = generic (Words 1) Word Sym TakesAddress NoBytes
facts Phi = generic OneAnEdge WordOrMemory Nothing Rests NoBytes
facts Copy = computes 1 Nothing
facts Arg = generic (Words 0) Word Int TakesParameter NoBytes
facts InitMem = generic (Words 0) Memory Nothing Rests NoBytes
facts StaticLECall = generic AnyWordsAndMemory Tuple Sym Calls NoBytes
facts SelectN = generic ItsCall WordOrMemory Int Rests NoBytes
facts MakeResult = generic AnyWordsAndMemory Tuple Nothing Rests NoBytes
facts Arm64MOVDconst = machine_computes 0 Int
facts Arm64MOVDaddr = machine (Words 0) Word Sym TakesAddress NoBytes
facts Arm64ADD = machine_computes 2 Nothing
facts Arm64SUB = machine_computes 2 Nothing
facts Arm64AND = machine_computes 2 Nothing
facts Arm64OR = machine_computes 2 Nothing
facts Arm64XOR = machine_computes 2 Nothing
facts Arm64MUL = machine_computes 2 Nothing
facts Arm64MULW = machine_computes 2 Nothing
facts Arm64ADDconst = machine_computes 1 Int
facts Arm64SUBconst = machine_computes 1 Int
facts Arm64ANDconst = machine_computes 1 Int
facts Arm64ORconst = machine_computes 1 Int
facts Arm64XORconst = machine_computes 1 Int
facts Arm64NEG = machine_computes 1 Nothing
facts Arm64MVN = machine_computes 1 Nothing
facts Arm64DIV = machine_computes 2 Nothing
facts Arm64UDIV = machine_computes 2 Nothing
facts Arm64DIVW = machine_computes 2 Nothing
facts Arm64UDIVW = machine_computes 2 Nothing
facts Arm64MOD = machine_computes 2 Nothing
facts Arm64UMOD = machine_computes 2 Nothing
facts Arm64MODW = machine_computes 2 Nothing
facts Arm64UMODW = machine_computes 2 Nothing
facts Arm64SLL = machine_computes 2 Nothing
facts Arm64SRL = machine_computes 2 Nothing
facts Arm64SRA = machine_computes 2 Nothing
facts Arm64SLLconst = machine_computes 1 Int
facts Arm64SRLconst = machine_computes 1 Int
facts Arm64SRAconst = machine_computes 1 Int
facts Arm64MOVBreg = machine_computes 1 Nothing
facts Arm64MOVHreg = machine_computes 1 Nothing
facts Arm64MOVWreg = machine_computes 1 Nothing
facts Arm64MOVBUreg = machine_computes 1 Nothing
facts Arm64MOVHUreg = machine_computes 1 Nothing
facts Arm64MOVWUreg = machine_computes 1 Nothing
facts Arm64CMP = compares 2 Nothing
facts Arm64CMPW = compares 2 Nothing
facts Arm64CMPconst = compares 1 Int
facts Arm64CMPWconst = compares 1 Int
facts Arm64TSTWconst = compares 1 Int
facts Arm64Equal = reads_flags 0 Nothing
facts Arm64NotEqual = reads_flags 0 Nothing
facts Arm64LessThan = reads_flags 0 Nothing
facts Arm64LessEqual = reads_flags 0 Nothing
facts Arm64GreaterThan = reads_flags 0 Nothing
facts Arm64GreaterEqual = reads_flags 0 Nothing
facts Arm64LessThanU = reads_flags 0 Nothing
facts Arm64LessEqualU = reads_flags 0 Nothing
facts Arm64GreaterThanU = reads_flags 0 Nothing
facts Arm64GreaterEqualU = reads_flags 0 Nothing
facts Arm64CSEL = reads_flags 2 Int
facts Arm64MOVBload = loads (Signed W8)
facts Arm64MOVHload = loads (Signed W16)
facts Arm64MOVWload = loads (Signed W32)
facts Arm64MOVBUload = loads (Unsigned W8)
facts Arm64MOVHUload = loads (Unsigned W16)
facts Arm64MOVWUload = loads (Unsigned W32)
facts Arm64MOVDload = loads (Unsigned W64)
facts Arm64MOVBstore = stores W8
facts Arm64MOVHstore = stores W16
facts Arm64MOVWstore = stores W32
facts Arm64MOVDstore = stores W64
facts Arm64LoweredNilCheck = machine (WordsAndMemory 1) Void Nothing ChecksNil NoBytes
facts Arm64CALLstatic = machine AnyWordsAndMemory Tuple Sym Calls NoBytes

-- ---- what follows

-- how many arguments it takes, memory and flags included
abbrev pub arity_of : Takes → Arity
arity_of (Words n) = Exact n
arity_of (WordsAndMemory n) = Exact (n + 1)
arity_of (WordsAndFlags n) = Exact (n + 1)
arity_of AnyWordsAndMemory = Any
arity_of OneAnEdge = Any
arity_of ItsCall = Exact 1

-- how many operands its line reads from registers: the words among its arguments; a call's and a function's results
-- stand at their places, and what takes an edge or a call has none
abbrev pub operands_of : Takes → ℕ
operands_of (Words n) = n
operands_of (WordsAndMemory n) = n
operands_of (WordsAndFlags n) = n
operands_of AnyWordsAndMemory = 0
operands_of OneAnEdge = 0
operands_of ItsCall = 0

abbrev pub takes_flags : Takes → Bool
takes_flags (Words n) = false
takes_flags (WordsAndMemory n) = false
takes_flags (WordsAndFlags n) = true
takes_flags AnyWordsAndMemory = false
takes_flags OneAnEdge = false
takes_flags ItsCall = false

-- a memory behind a number of words that its row says
abbrev pub takes_memory : Takes → Bool
takes_memory (Words n) = false
takes_memory (WordsAndMemory n) = true
takes_memory (WordsAndFlags n) = false
takes_memory AnyWordsAndMemory = false
takes_memory OneAnEdge = false
takes_memory ItsCall = false

abbrev pub is_memory : Gives → Bool
is_memory Word = false
is_memory Memory = true
is_memory WordOrMemory = false
is_memory Tuple = false
is_memory Flags = false
is_memory Void = false
