use Rattle.std.proofs.Common.{nat_eq, sym, ap, ◌∙◌, cond, Some}
use Rattle.std.specs.Cmp.Lexicographic.{pointwise}
use Rattle.indexmap.specs.IndexMap.{get}
use Rattle.ssa_meaning.proofs.SymbolLemmas.{put_behind}
use Rattle.ssa_meaning.proofs.symbols.SymbolTable.put.Goals as goal

pub returns : goal.returns
returns c =
    let old = get (pointwise nat_eq) c.args.self.now.words in
    let new = get (pointwise nat_eq) c.insert.new.self in
    put_behind old new c.args.name.now c.args.word (sym c.contains_key.ensures ∙ c.if-contains_key.false)
    (λ q. c.in_ok-insert.ensures.updates.0 q
    ∙ ap (λ n. cond (pointwise nat_eq n q) (Some c.args.word) (old q)) c.in_ok-same_name.ensures)
