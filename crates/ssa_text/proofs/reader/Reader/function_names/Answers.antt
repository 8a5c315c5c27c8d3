use Rattle.std.proofs.Common.{◌≡◌, ◌++◌, map, sym, ap, ◌∙◌}
use Rattle.std.proofs.lemmas.Result.{IfOk-weaker}
use Rattle.ssa_ir.specs.declared.func.Func.{Func}
use Rattle.ssa_text.specs.Reading.{open_name}
use Rattle.ssa_text.specs.UnitReading.{function_names}
use Rattle.ssa_text.proofs.TakeLemmas.{whole_names}
use Rattle.ssa_text.proofs.reader.Reader.function_names.Goals as goal

pub returns : goal.returns
returns c =
    let g = c.self.inside.gathered in
    let all = ap (λ names. names ++ open_name g.func)
    (c.in_ok-names.ensures ∙ ap (map (λ (f : Func). f.sig.name)) c.as_slice.ensures)
    ∙ sym (whole_names g.funcs g.func)
    ∙ ap function_names c.self.view_is in
    IfOk-weaker c.with_open_name.result (λ names. names ≡ c.in_ok-names.names ++ open_name g.func)
    (λ names. names ≡ function_names c.args.self.now) (λ names e. e ∙ all) c.with_open_name.ensures
