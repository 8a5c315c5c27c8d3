-- One function, written out, with its listing: the sum of two parameters.
use Rattle.std.specs.Prelude.{◌≡◌, ℕ, pos, ◌-◌, ◌^◌, codes, false, List, [], ◌∷◌, Some}
use Rattle.gossa_base.specs.declared.ids.BlockId.{BlockId}
use Rattle.ssa_ir.specs.declared.case.End.TheVariants.{Returned, Going}
use Rattle.ssa_ir.specs.declared.op.Width.TheVariants.{W64}
use Rattle.ssa_ir.specs.declared.op.Op.TheVariants.{InitMem, Arg, Add, MakeResult, Arm64ADD}
use Rattle.ssa_ir.specs.declared.types.Scalar.TheVariants.{I64}
use Rattle.ssa_ir.specs.declared.types.Sig.{Sig}
use Rattle.ssa_ir.specs.declared.types.Ty.TheVariants.{One, Mem, Tuple}
use Rattle.ssa_ir.specs.declared.func.Kind.TheVariants.{Ret}
use Rattle.ssa_ir.specs.declared.func.Func.{Func}
use Rattle.ssa_ir.specs.Inputs.{Inputs}
use Rattle.ssa_ir.specs.Run.{Callees, generic, run}
use Rattle.ssa_ir.specs.Showing.{ends}
use Rattle.listing.specs.declared.line.Line.{Line}
use Rattle.listing.specs.declared.line.Line.TheVariants.{Label, Op as Compute, Move, Ret as Return}
use Rattle.listing.specs.declared.line.Note.TheVariants.{Value as Computes, Spill, Load, Results}
use Rattle.listing.specs.declared.line.Place.TheVariants.{Reg, Frame}
use Rattle.listing.specs.declared.code.Listing.{Listing}
use Rattle.listing.specs.ListingRun.{run_listing}
use Rattle.listing.specs.SameShow.{ShowsAs}
use Rattle.sum_compile.specs.Narrow.{vid, plain_value}

-- f(int64,int64) (int64)
abbrev pub row_sig : Sig
row_sig = record { name = codes "f"; params = I64 ∷ I64 ∷ []; results = I64 ∷ [] }

-- b1, the only block
abbrev pub row_block : BlockId
row_block = record { split = false; n = 1 }

-- v1 = InitMem, v2 = Arg [0], v3 = Arg [1], v4 = Add64 v2 v3, v5 = MakeResult v4 v1, and then Ret v5
abbrev pub row : Func
row = record {
  sig = row_sig;
  blocks =
      record {
        id = row_block;
        preds = [];
        values =
            plain_value 1 InitMem Mem (pos 0) []
            ∷ plain_value 2 Arg (One I64) (pos 0) []
            ∷ plain_value 3 Arg (One I64) (pos 1) []
            ∷ plain_value 4 (Add W64) (One I64) (pos 0) (vid 2 ∷ vid 3 ∷ [])
            ∷ plain_value 5 MakeResult (Tuple (I64 ∷ [])) (pos 0) (vid 4 ∷ vid 1 ∷ [])
            ∷ [];
        kind = Ret;
        control = Some (vid 5);
        succs = [];
      }
      ∷ [];
}

-- a listing of f with these lines, 24 registers and three frame words
abbrev pub row_listing_of : List Line → Listing
row_listing_of lines = record {
  code = record { sig = row_sig; regs = 24; syms = []; lines = lines; out = 0; arg_words = 0 };
  ptr = 0;
  scalar = 3;
  maps = [];
}

-- the lines up to the sum
abbrev pub lines_to_sum : List Line → List Line
lines_to_sum rest =
    Label row_block ((0, vid 2) ∷ (1, vid 3) ∷ [])
    ∷ Move (Frame 0) (Reg 0) (Spill (vid 2))
    ∷ Move (Frame 1) (Reg 1) (Spill (vid 3))
    ∷ Move (Reg 0) (Frame 0) (Load (vid 2))
    ∷ Move (Reg 1) (Frame 1) (Load (vid 3))
    ∷ Compute Arm64ADD (pos 0) (record { dst = Some 0; a = Some 0; b = Some 1 }) (Computes (vid 4))
    ∷ rest

-- the listing of f: v2, v3 and v4 stand in the frame words 0, 1 and 2
abbrev pub row_listing : Listing
row_listing =
    row_listing_of (lines_to_sum
    (Move (Frame 2) (Reg 0) (Spill (vid 4)) ∷ Move (Reg 0) (Frame 2) Results ∷ Return ∷ []))

-- the same, but that the sum isn't stored in its frame word
abbrev pub row_listing_without_spill : Listing
row_listing_without_spill = row_listing_of (lines_to_sum (Move (Reg 0) (Frame 2) Results ∷ Return ∷ []))

-- with these argument words, and whatever else stands outside, f and its listing return this sum in one turn, and leave
-- memory as it was
pub record RowReturns (first second sum : ℕ) : Type 0 where
  pub function :
      (callees : Callees) (inputs : Inputs) → inputs.arguments ≡ first ∷ second ∷ []
      → run (generic callees) inputs row 1 ≡ ends (Returned (sum ∷ []) [])
  pub listing :
      (callees : Callees) (inputs : Inputs) → inputs.arguments ≡ first ∷ second ∷ []
      → run_listing callees inputs row_listing 1 ≡ ends (Returned (sum ∷ []) [])

-- the runs of f and of its listing
pub record RowRuns : Type 0 where
  pub small : RowReturns 7 5 12
  pub past_the_largest : RowReturns (2 ^ 64 - 1) 2 1
  pub twice_the_half : RowReturns (2 ^ 63) (2 ^ 63) 0
  pub function_goes_on : (callees : Callees) (inputs : Inputs) → run (generic callees) inputs row 0 ≡ ends Going
  pub listing_goes_on : (callees : Callees) (inputs : Inputs) → run_listing callees inputs row_listing 0 ≡ ends Going

-- the listing without its last spill shows something else than f, whatever f's callees are
abbrev pub SpillIsNeeded : Type 0
SpillIsNeeded = (callees : Callees) → ¬ ShowsAs callees row row_listing_without_spill
