-- A unit, written out: the sum of the first n words of a slice, whose index is checked before each load.
use Rattle.std.specs.Prelude.{ℕ, ℤ, pos, codes, false, List, [], ◌∷◌, ◌++◌, map, Option, Some, None}
use Rattle.gossa_base.specs.declared.ids.ValueId.{ValueId}
use Rattle.gossa_base.specs.declared.ids.BlockId.{BlockId}
use Rattle.ssa_ir.specs.declared.op.Width.TheVariants.{W64}
use Rattle.ssa_ir.specs.declared.op.Op.{Op}
use Rattle.ssa_ir.specs.declared.op.Op.TheVariants.{InitMem, Arg, Const, Phi, Less, IsInBounds, Lsh, AddPtr, Load, Add}
use Rattle.ssa_ir.specs.declared.op.Op.TheVariants.{MakeResult, StaticLECall, SelectN}
use Rattle.ssa_ir.specs.declared.types.Scalar.{Scalar}
use Rattle.ssa_ir.specs.declared.types.Scalar.TheVariants.{I64, U64, Bool, Ptr}
use Rattle.ssa_ir.specs.declared.types.Sig.{Sig}
use Rattle.ssa_ir.specs.declared.types.Ty.{Ty}
use Rattle.ssa_ir.specs.declared.types.Ty.TheVariants.{One, Mem, Tuple}
use Rattle.ssa_ir.specs.declared.func.Value.{Value}
use Rattle.ssa_ir.specs.declared.func.Kind.{Kind}
use Rattle.ssa_ir.specs.declared.func.Kind.TheVariants.{Plain, If, Ret, Exit}
use Rattle.ssa_ir.specs.declared.func.Block.{Block}
use Rattle.ssa_ir.specs.declared.func.Func.{Func}
use Rattle.ssa_ir.specs.declared.func.SsaUnit.{SsaUnit}
use Rattle.ssa_ir.specs.declared.case.Junk.{Junk}
use Rattle.ssa_ir.specs.declared.case.Piece.{Piece}
use Rattle.ssa_ir.specs.declared.case.Reply.{Reply}
use Rattle.ssa_ir.specs.declared.case.Case.{Case}

abbrev pub vid : ℕ → ValueId
vid n = record { 0 = n }

abbrev pub bid : ℕ → BlockId
bid n = record { split = false; n = n }

-- a value with no symbol and no element type: its number, op, type, number in brackets and arguments
abbrev pub numbered_value : ℕ → Op → Ty → ℤ → List ℕ → Value
numbered_value n op ty aux args = record {
  id = vid n;
  op = op;
  ty = ty;
  aux = aux;
  sym = None;
  elem = None;
  args = map vid args;
}

-- a value of one word that has arguments alone
abbrev pub word_value : ℕ → Op → Scalar → List ℕ → Value
word_value n op t args = numbered_value n op (One t) (pos 0) args

-- a block: its number, predecessors, values, how it ends, its control and its successors
abbrev pub numbered_block : ℕ → List ℕ → List Value → Kind → Option ValueId → List ℕ → Block
numbered_block n preds values kind control succs = record {
  id = bid n;
  preds = map bid preds;
  values = values;
  kind = kind;
  control = control;
  succs = map bid succs;
}

-- runtime.panicIndex(int64, int64), which is called with an index and the length that it isn't below
abbrev pub panic_index : Sig
panic_index = record { name = codes "runtime.panicIndex"; params = I64 ∷ I64 ∷ []; results = [] }

-- main.sum(*byte, int64, int64) (int64): the slice's first word and its length, and n
abbrev pub sum_sig : Sig
sum_sig = record { name = codes "main.sum"; params = Ptr ∷ I64 ∷ I64 ∷ []; results = I64 ∷ [] }

-- b1: the memory, the parameters v2, v3 and v4, and the constants 0, 1 and 3
abbrev pub sum_entry : Block
sum_entry =
    numbered_block 1 []
    (numbered_value 1 InitMem Mem (pos 0) []
    ∷ numbered_value 2 Arg (One Ptr) (pos 0) []
    ∷ numbered_value 3 Arg (One I64) (pos 1) []
    ∷ numbered_value 4 Arg (One I64) (pos 2) []
    ∷ numbered_value 5 (Const W64) (One I64) (pos 0) []
    ∷ numbered_value 6 (Const W64) (One I64) (pos 1) []
    ∷ numbered_value 20 (Const W64) (One U64) (pos 3) []
    ∷ [])
    Plain None (2 ∷ [])

-- b2: the index v7 and the sum v8 so far; the loop goes on where the index is below n
abbrev pub sum_loop : Block
sum_loop =
    numbered_block 2 (1 ∷ 4 ∷ [])
    (word_value 7 Phi I64 (5 ∷ 15 ∷ [])
    ∷ word_value 8 Phi I64 (5 ∷ 14 ∷ [])
    ∷ word_value 9 (Less W64) Bool (7 ∷ 4 ∷ [])
    ∷ [])
    If (Some (vid 9)) (3 ∷ 5 ∷ [])

-- b3: the check of the index
abbrev pub sum_check : Block
sum_check =
    numbered_block 3 (2 ∷ [])
    (word_value 10 IsInBounds Bool (7 ∷ 3 ∷ []) ∷ [])
    If (Some (vid 10)) (4 ∷ 6 ∷ [])

-- b4: the word at the index is added, and the index goes up by 1
abbrev pub sum_step : Block
sum_step =
    numbered_block 4 (3 ∷ [])
    (word_value 11 (Lsh W64) I64 (7 ∷ 20 ∷ [])
    ∷ word_value 12 AddPtr Ptr (2 ∷ 11 ∷ [])
    ∷ word_value 13 Load I64 (12 ∷ 1 ∷ [])
    ∷ word_value 14 (Add W64) I64 (8 ∷ 13 ∷ [])
    ∷ word_value 15 (Add W64) I64 (7 ∷ 6 ∷ [])
    ∷ [])
    Plain None (2 ∷ [])

-- b5: the sum is returned
abbrev pub sum_return : Block
sum_return =
    numbered_block 5 (2 ∷ [])
    (numbered_value 16 MakeResult (Tuple (I64 ∷ [])) (pos 0) (8 ∷ 1 ∷ []) ∷ [])
    Ret (Some (vid 16)) []

-- the call of panic_index with the index, the slice's length and the memory
abbrev pub panic_call : Value
panic_call =
    record (numbered_value 17 StaticLECall (Tuple []) (pos 0) (7 ∷ 3 ∷ 1 ∷ [])) { sym = Some panic_index.name }

-- b6: what is done where the index isn't below the slice's length
abbrev pub sum_panic : Block
sum_panic =
    numbered_block 6 (3 ∷ [])
    (panic_call ∷ numbered_value 18 SelectN Mem (pos 0) (17 ∷ []) ∷ [])
    Exit (Some (vid 18)) []

abbrev pub sum_func : Func
sum_func = record {
  sig = sum_sig;
  blocks = sum_entry ∷ sum_loop ∷ sum_check ∷ sum_step ∷ sum_return ∷ sum_panic ∷ [];
}

abbrev pub no_junk : Junk
no_junk = record { words = []; fill = 0 }

-- a case of main.sum: at most 100 turns, with these argument words, this memory and these replies
abbrev pub sum_case : List ℕ → List Piece → List Reply → Case
sum_case args mem replies = record {
  func = 0;
  bound = 100;
  args = args;
  syms = [];
  mem = mem;
  junk = no_junk;
  replies = replies;
}

-- the words 3 and 4, from 0x1000 on
abbrev pub two_words : Piece
two_words = record {
  addr = 0x1000;
  bytes = (3 ∷ 0 ∷ 0 ∷ 0 ∷ 0 ∷ 0 ∷ 0 ∷ 0 ∷ []) ++ (4 ∷ 0 ∷ 0 ∷ 0 ∷ 0 ∷ 0 ∷ 0 ∷ 0 ∷ []);
}

-- a reply without words, which leaves 0 in all else
abbrev pub empty_reply : Reply
empty_reply = record { words = []; writes = []; junk = no_junk; clobber = 0 }

-- the unit, with a case that sums both words, one that sums none, and one whose last index fails the check
abbrev pub bounds_checked : SsaUnit
bounds_checked = record {
  sigs = panic_index ∷ [];
  funcs = sum_func ∷ [];
  cases =
      sum_case (0x1000 ∷ 2 ∷ 2 ∷ []) (two_words ∷ []) []
      ∷ sum_case (0x1000 ∷ 2 ∷ 0 ∷ []) [] []
      ∷ sum_case (0x1000 ∷ 2 ∷ 3 ∷ []) [] (empty_reply ∷ [])
      ∷ [];
}
