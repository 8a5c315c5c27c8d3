-- A line without a fault keeps what holds of all that was read.
use Rattle.std.proofs.Common.{◌≡◌, ℕ, Bool, true, false, not, None, is_some, refl, arith}
use Rattle.std.proofs.lemmas.Bool.{and_parts, not-true}
use Rattle.std.proofs.lemmas.List.Elements.{All-nil}
use Rattle.ssa_ir.specs.declared.types.Sig.{Sig}
use Rattle.ssa_ir.specs.declared.func.Value.{Value}
use Rattle.ssa_lines.specs.declared.forms.Spelled.TheVariants.{Fits}
use Rattle.ssa_lines.specs.declared.forms.BlockLine.{BlockLine}
use Rattle.ssa_lines.specs.declared.forms.ControlLine.{ControlLine}
use Rattle.ssa_lines.specs.declared.forms.ValueLine.TheVariants.{Known}
use Rattle.ssa_lines.specs.declared.forms.Form.{Form}
use Rattle.ssa_lines.specs.declared.forms.Form.TheVariants.{Sig as SigForm, Func as FuncForm, Block as BlockForm}
use Rattle.ssa_lines.specs.declared.forms.Form.TheVariants.{Value as ValueForm, Control as ControlForm}
use Rattle.ssa_text.specs.Reading.{Read, nothing, has_open_block, in_place, fault_of_form, unknown_in, behind}
use Rattle.ssa_lines.proofs.FormFacts.{FormFacts}
use Rattle.ssa_lines.proofs.LimitLemmas.{neither}
use Rattle.ssa_text.proofs.MentionLemmas.{no_mentions, new_mentions, mentions_behind_block, mentions_behind_value}
use Rattle.ssa_text.proofs.MentionLemmas.{mentions_behind_end}
use Rattle.ssa_text.proofs.OpenFuncLemmas.{no_values, no_ids, values_behind_value, values_behind_block}
use Rattle.ssa_text.proofs.OpenFuncLemmas.{values_behind_end, ids_behind_block, ids_behind_value, ids_behind_end}
use Rattle.ssa_text.proofs.OpenFuncLemmas.{parts_behind_block, parts_behind_value, parts_behind_end, funcs_behind}
use Rattle.ssa_text.proofs.ReadFacts.{Taken, GoodBlock, FuncWell, RefsThere, ReadWell}
use Rattle.ssa_text.proofs.RefLemmas.{refs_behind}
use Rattle.ssa_text.proofs.TakenLemmas.{taken}
use Rattle.ssa_text.proofs.UnitLemmas.{sigs_behind, counts_behind, names_behind}

-- what was read before all lines
pub read_well_nothing : ReadWell nothing
read_well_nothing = record {
  sigs = record { sigs = All-nil _; funcs = All-nil _; open_func = tt };
  counts = record { sigs = omega arith; funcs = omega arith };
  names = record { none_yet = λ none. refl; differ = λ i j d lt within. absurd (omega arith) };
  funcs = All-nil FuncWell;
  refs = λ known. All-nil RefsThere;
  values = no_values;
  ids = no_ids;
  parts = record { blocks = All-nil GoodBlock; preds = tt };
  mentions = no_mentions;
}

-- a block may begin in a function that has no open one
may_begin : (r : Read) (b : BlockLine) → in_place r (BlockForm (Fits b)) ≡ true
    → (is_some r.func ≡ true) × (has_open_block r.func ≡ false)
may_begin r b place =
    let parts = and_parts (is_some r.func) (not (has_open_block r.func)) place in
    (parts.0, not-true (has_open_block r.func) parts.1)

sig_read : (r : Read) (line : ℕ) (s : Sig) → Taken r (SigForm s) → ReadWell r → ReadWell (behind r line (SigForm s))
sig_read r line s t well = record {
  sigs = sigs_behind r line (SigForm s) t well.sigs;
  counts = counts_behind r line (SigForm s) t well.counts;
  names = names_behind r line (SigForm s) t well.names;
  funcs = well.funcs;
  refs = well.refs;
  values = well.values;
  ids = well.ids;
  parts = well.parts;
  mentions = well.mentions;
}

func_read : (r : Read) (line : ℕ) (s : Sig) → Taken r (FuncForm s) → ReadWell r
    → ReadWell (behind r line (FuncForm s))
func_read r line s t well =
    let none = not-true (has_open_block r.func) t.place in record {
      sigs = sigs_behind r line (FuncForm s) t well.sigs;
      counts = counts_behind r line (FuncForm s) t well.counts;
      names = names_behind r line (FuncForm s) t well.names;
      funcs = funcs_behind r.funcs r.func none well.funcs well.values well.ids well.parts;
      refs = λ known.
          let parts = neither r.unknown (unknown_in r.func r.mentions) known in
          refs_behind r.funcs r.func r.mentions none parts.1 (well.refs parts.0) well.ids well.parts well.mentions;
      values = no_values;
      ids = no_ids;
      parts = record { blocks = All-nil GoodBlock; preds = tt };
      mentions = new_mentions s;
    }

block_read : (r : Read) (line : ℕ) (b : BlockLine) → Taken r (BlockForm (Fits b)) → ReadWell r
    → ReadWell (behind r line (BlockForm (Fits b)))
block_read r line b t well =
    let here = may_begin r b t.place in record {
      sigs = sigs_behind r line (BlockForm (Fits b)) t well.sigs;
      counts = counts_behind r line (BlockForm (Fits b)) t well.counts;
      names = names_behind r line (BlockForm (Fits b)) t well.names;
      funcs = well.funcs;
      refs = well.refs;
      values = values_behind_block b r.func here.1 well.values;
      ids = ids_behind_block b r.func here.0 here.1 well.ids t.facts t.room t.once;
      parts = parts_behind_block b r.func t.facts t.limits well.parts;
      mentions = mentions_behind_block line b r.func r.mentions here.1 well.mentions;
    }

value_read : (r : Read) (line : ℕ) (v : Value) → Taken r (ValueForm (Known v)) → ReadWell r
    → ReadWell (behind r line (ValueForm (Known v)))
value_read r line v t well = record {
  sigs = sigs_behind r line (ValueForm (Known v)) t well.sigs;
  counts = counts_behind r line (ValueForm (Known v)) t well.counts;
  names = names_behind r line (ValueForm (Known v)) t well.names;
  funcs = well.funcs;
  refs = well.refs;
  values = values_behind_value v r.func t.place well.values
      (record { number = t.facts.number; well_formed = t.facts.well_formed; limits = t.limits }) t.room t.once;
  ids = ids_behind_value v r.func well.ids;
  parts = parts_behind_value v r.func well.parts;
  mentions = mentions_behind_value line v r.func r.mentions t.place well.mentions;
}

control_read : (r : Read) (line : ℕ) (c : ControlLine) → Taken r (ControlForm (Fits c)) → ReadWell r
    → ReadWell (behind r line (ControlForm (Fits c)))
control_read r line c t well = record {
  sigs = sigs_behind r line (ControlForm (Fits c)) t well.sigs;
  counts = counts_behind r line (ControlForm (Fits c)) t well.counts;
  names = names_behind r line (ControlForm (Fits c)) t well.names;
  funcs = well.funcs;
  refs = well.refs;
  values = values_behind_end c r.func well.values;
  ids = ids_behind_end c r.func well.ids;
  parts = parts_behind_end c r.func t.facts well.parts;
  mentions = mentions_behind_end line c r.func r.mentions well.mentions;
}

taken_well : (r : Read) (line : ℕ) (form : Form) → Taken r form → ReadWell r → ReadWell (behind r line form)
taken_well r line (SigForm s) t well = sig_read r line s t well
taken_well r line (FuncForm s) t well = func_read r line s t well
taken_well r line (BlockForm (Fits b)) t well = block_read r line b t well
taken_well r line (ValueForm (Known v)) t well = value_read r line v t well
taken_well r line (ControlForm (Fits c)) t well = control_read r line c t well
taken_well r line _ t well = well

-- a line without a fault keeps all
pub read_well_behind : (r : Read) (line : ℕ) (last : Bool) (form : Form) → ReadWell r
    → fault_of_form r line last form ≡ None → FormFacts form → ReadWell (behind r line form)
read_well_behind r line last form well fault facts =
    taken_well r line form (taken r line last form fault facts) well
