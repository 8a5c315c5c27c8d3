use Rattle.std.proofs.Common.{List, find, ap, ◌∙◌}
use Rattle.ssa_ir.specs.declared.types.Sig.{Sig}
use Rattle.ssa_ir.specs.Lookups.{is_of, func_sigs}
use Rattle.ssa_ir.proofs.LookupLemmas.{found_in_front, found_behind}
use Rattle.ssa_ir.proofs.func.SsaUnit.sig_of.Goals as goal

pub returns-in-Some : goal.returns-in-Some
returns-in-Some c =
    let sigs : List Sig = c.args.self.now.sigs in
    let others : List Sig = func_sigs c.args.self.now.funcs in
    let found = c.in-Some.ensures ∙ ap (find (is_of c.args.name.now)) c.as_slice.ensures in
    found_in_front (is_of c.args.name.now) sigs others c.in-Some.sig.now found

pub returns-in-None : goal.returns-in-None
returns-in-None c =
    let sigs : List Sig = c.args.self.now.sigs in
    let others : List Sig = func_sigs c.args.self.now.funcs in
    let none = c.in-None.ensures ∙ ap (find (is_of c.args.name.now)) c.as_slice.ensures in
    c.func_sig_in.ensures
    ∙ ap (λ funcs. find (is_of c.args.name.now) (func_sigs funcs)) c.as_slice-in-None.ensures
    ∙ found_behind (is_of c.args.name.now) sigs others none
