use Rattle.std.proofs.Common.{◌≡◌, ℕ, ◌<◌, List, [], ◌∷◌, ◌++◌, length, get_or, map, set, Vec, Global, sym, ap, ◌∙◌}
use Rattle.std.proofs.Common.{arith}
use Rattle.std.proofs.lemmas.List.{length-map}
use Rattle.graphs.specs.Graphs.{targets}
use Rattle.gossa_base.proofs.VectorLists.{get_map, map_set}
use Rattle.graphs.proofs.graph.Graph.add.Goals as goal

pub returns : goal.returns
returns c =
    let lists : List (Vec ℕ Global) = c.self.inside.targets.items in
    let u : ℕ = c.args.edge.source in
    let view : map (λ (w : Vec ℕ Global). w.items) lists ≡ c.args.self.now = c.self.view_is in
    let pushed : c.push.new.self.items ≡ c.index_mut.result.now.items ++ c.args.edge.target ∷ [] =
    c.in_ok-push.ensures.items in
    let read : c.index_mut.result.now ≡ get_or lists u c.index_mut.result.now = c.index_mut.ensures.value in
    let within : u < length lists =
    omega (arith, c.requires.source, ap length view, length-map lists (λ (w : Vec ℕ Global). w.items)) in
    let old : c.index_mut.result.now.items ≡ targets c.args.self.now u =
    ap (λ (w : Vec ℕ Global). w.items) read ∙ sym (get_map lists u c.index_mut.result.now within)
    ∙ ap (λ graph. get_or graph u []) view in
    map_set lists u c.push.new.self ∙ ap (λ items. set (map (λ (w : Vec ℕ Global). w.items) lists) u items)
    (pushed ∙ ap (λ xs. xs ++ c.args.edge.target ∷ []) old)
    ∙ ap (λ graph. set graph u (targets c.args.self.now u ++ c.args.edge.target ∷ [])) view
