-- What is read is well formed.
use Rattle.std.proofs.Common.{◌≡◌, ◌<◌, ◌≤◌, false, List, [], ◌∷◌, ◌++◌, map, get_or, All, Option, None, Some, sym, ap}
use Rattle.std.proofs.Common.{◌∙◌, subst}
use Rattle.std.proofs.lemmas.List.{append-nil, map-append, length-map}
use Rattle.std.proofs.lemmas.List.Elements.{All-append, All-map, All-weaker}
use Rattle.std.proofs.lemmas.Simd.{map-map}
use Rattle.ssa_ir.specs.declared.limits.TheConstants.{MAX_BLOCKS, MAX_FUNCTIONS}
use Rattle.ssa_ir.specs.declared.types.Sig.{Sig}
use Rattle.ssa_ir.specs.declared.func.Block.{Block}
use Rattle.ssa_ir.specs.declared.func.Func.{Func}
use Rattle.ssa_ir.specs.declared.func.SsaUnit.{SsaUnit}
use Rattle.ssa_ir.specs.declared.case.Case.{Case}
use Rattle.ssa_ir.specs.Limits.{FuncWithinLimits, WithinLimits}
use Rattle.ssa_ir.specs.Lookups.{func_sigs, signatures}
use Rattle.ssa_ir.specs.WellFormed.{Differ, WellFormedFunc, WellFormedCase, WellFormed}
use Rattle.case_text.proofs.CaseFacts.{CasesFacts}
use Rattle.case_text.proofs.WellFormedCases.{NamesThere, well_formed_cases}
use Rattle.ssa_text.specs.declared.partial.OpenFunc.{OpenFunc}
use Rattle.ssa_text.specs.Reading.{Read, has_open_block, open_name, names_given, whole, with_whole, unknown_in}
use Rattle.ssa_text.specs.Reading.{unknown_line}
use Rattle.ssa_text.specs.UnitReading.{function_names}
use Rattle.ssa_lines.proofs.FormFacts.{IsTextBlock}
use Rattle.ssa_lines.proofs.LimitLemmas.{neither}
use Rattle.ssa_text.proofs.ListLemmas.{All-unmap}
use Rattle.ssa_text.proofs.OpenFuncLemmas.{funcs_behind}
use Rattle.ssa_text.proofs.ReadFacts.{GoodSig, FuncWell, RefsThere, ReadWell}
use Rattle.ssa_text.proofs.RefLemmas.{refs_behind}
use Rattle.ssa_text.proofs.UnitLemmas.{whole_sigs, whole_count}

-- ---- functions

func_well_formed : (f : Func) → FuncWell f → RefsThere f → WellFormedFunc f
func_well_formed f well refs =
    let ids = All-unmap IsTextBlock (λ (b : Block). b.id) f.blocks well.ids.good in record {
      value_numbers = λ k d lt. (well.values.good k d lt).number;
      block_numbers = λ k d lt. (ids k d lt).number;
      values_differ = well.values.differ;
      blocks_differ = subst Differ (map-map (λ id. id.n) (λ (b : Block). b.id) f.blocks) well.ids.differ;
      unsplit = λ k d lt. (ids k d lt).unsplit;
      args_there = refs.args;
      controls_there = refs.controls;
      preds_there = refs.preds;
      succs_there = refs.succs;
      each_value = λ k d lt. (well.values.good k d lt).well_formed;
      each_block = λ k d lt. (well.blocks k d lt).well_formed;
    }

func_within_limits : (f : Func) → FuncWell f → FuncWithinLimits f
func_within_limits f well = record {
  values = well.values.few;
  blocks = subst (λ n. n ≤ MAX_BLOCKS) (length-map f.blocks (λ (b : Block). b.id)) well.ids.few;
  each_value = λ k d lt. (well.values.good k d lt).limits;
  preds = λ k d lt. (well.blocks k d lt).preds.few;
}

-- ---- names

whole_names : (funcs : List Func) (func : Option OpenFunc)
    → map (λ (s : Sig). s.name) (func_sigs (with_whole funcs func))
    ≡ map (λ (f : Func). f.sig.name) funcs ++ open_name func
whole_names funcs None =
    map-map (λ (s : Sig). s.name) (λ (f : Func). f.sig) funcs
    ∙ sym (append-nil (map (λ (f : Func). f.sig.name) funcs))
whole_names funcs (Some f) =
    map-map (λ (s : Sig). s.name) (λ (g : Func). g.sig) (funcs ++ whole f ∷ [])
    ∙ map-append (λ (g : Func). g.sig.name) funcs (whole f ∷ [])

-- the names of a unit that ends are those that were given
unit_names : (r : Read)
    → names_given r ≡ map (λ (s : Sig). s.name) (r.sigs ++ func_sigs (with_whole r.funcs r.func))
unit_names r =
    ap (λ l. map (λ (s : Sig). s.name) r.sigs ++ l) (sym (whole_names r.funcs r.func))
    ∙ sym (map-append (λ (s : Sig). s.name) r.sigs (func_sigs (with_whole r.funcs r.func)))

-- ---- the unit

-- the unit of what was read and these cases
abbrev pub unit_of : Read → List Case → SsaUnit
unit_of r cases = record { sigs = r.sigs; funcs = with_whole r.funcs r.func; cases = cases }

all_sigs : (r : Read) (cases : List Case) → ReadWell r → All GoodSig (signatures (unit_of r cases))
all_sigs r cases well =
    let funcs = with_whole r.funcs r.func in
    All-append GoodSig r.sigs (func_sigs funcs) well.sigs.sigs
    (All-map GoodSig (λ (f : Func). f.sig) funcs (whole_sigs r.funcs r.func well.sigs.funcs well.sigs.open_func))

-- a case whose function is among the names is one of the unit's
case_well_formed : (r : Read) (cases : List Case) (c : Case) → NamesThere (function_names r) c
    → WellFormedCase (unit_of r cases) c
case_well_formed r cases c there =
    let as_many = length-map (with_whole r.funcs r.func) (λ (f : Func). f.sig.name) in
    record { function = subst (λ n. c.func < n) as_many there.0; symbols = there.1 }

-- what was read without a fault, and all that it names there, is well formed with such cases
pub well_formed_with : (r : Read) (cases : List Case) → ReadWell r → has_open_block r.func ≡ false
    → unknown_line r ≡ None → CasesFacts (function_names r) cases → WellFormed (unit_of r cases)
well_formed_with r cases well closed known facts =
    let parts = neither r.unknown (unknown_in r.func r.mentions) known in
    let funcs = funcs_behind r.funcs r.func closed well.funcs well.values well.ids well.parts in
    let refs = refs_behind r.funcs r.func r.mentions closed parts.1 (well.refs parts.0) well.ids well.parts
    well.mentions
    in
    let sigs = all_sigs r cases well in
    let whole_funcs = with_whole r.funcs r.func in
    let names = function_names r in
    let of_cases = well_formed_cases names cases facts in
    let limits : WithinLimits (unit_of r cases) = record {
      functions = subst (λ n. n ≤ MAX_FUNCTIONS) (sym (whole_count r.funcs r.func)) well.counts.funcs;
      sigs = well.counts.sigs;
      cases = of_cases.1;
      each_signature = λ k d lt. (sigs k d lt).limits;
      each_function = λ k d lt. func_within_limits (get_or whole_funcs k d) (funcs k d lt);
      each_case = of_cases.0;
    }
    in
    record {
      limits = limits;
      names = λ k d lt. (sigs k d lt).name;
      names_differ = subst Differ (unit_names r) well.names.differ;
      each_function = λ k d lt. func_well_formed (get_or whole_funcs k d) (funcs k d lt) (refs k d lt);
      each_case = All-weaker (NamesThere names) (WellFormedCase (unit_of r cases)) (case_well_formed r cases) cases
          of_cases.2;
    }
