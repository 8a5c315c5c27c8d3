use Rattle.std.proofs.Common.{◌≡◌, ℕ, ◌<◌, List, [], ◌∷◌, ◌++◌, length, get_or, map, set, Vec, Global, sym, ap, ◌∙◌}
use Rattle.std.proofs.Common.{arith}
use Rattle.std.proofs.lemmas.List.{length-map}
use Rattle.block_order.specs.tables.Waiting.{waiters_of}
use Rattle.gossa_base.proofs.VectorLists.{get_map, map_set}
use Rattle.block_order.proofs.waiters.Waiters.put.Goals as goal

pub returns : goal.returns
returns c =
    let lists : List (Vec ℕ Global) = c.self.inside.lists.items in
    let j : ℕ = c.args.awaited in
    let view : map (λ (w : Vec ℕ Global). w.items) lists ≡ c.args.self.now = c.self.view_is in
    let pushed : c.push.new.self.items ≡ c.index_mut.result.now.items ++ c.args.waiter ∷ [] =
    c.in_ok-push.ensures.items in
    let read : c.index_mut.result.now ≡ get_or lists j c.index_mut.result.now = c.index_mut.ensures.value in
    let within : j < length lists =
    omega (arith, c.requires.awaited, ap length view, length-map lists (λ (w : Vec ℕ Global). w.items)) in
    let old : c.index_mut.result.now.items ≡ waiters_of c.args.self.now j =
    ap (λ (w : Vec ℕ Global). w.items) read ∙ sym (get_map lists j c.index_mut.result.now within)
    ∙ ap (λ ls. get_or ls j []) view in
    map_set lists j c.push.new.self ∙ ap (λ items. set (map (λ (w : Vec ℕ Global). w.items) lists) j items)
    (pushed ∙ ap (λ xs. xs ++ c.args.waiter ∷ []) old)
    ∙ ap (λ ls. set ls j (waiters_of c.args.self.now j ++ c.args.waiter ∷ [])) view
