use Rattle.std.proofs.Common.{◌≡◌, false, None, Option, Some, is_some, refl, sym, ◌∙◌}
use Rattle.ssa_meaning.proofs.MemoryLemmas.{found, inserted, written_again, written_first}
use Rattle.ssa_meaning.proofs.memory.RunMemory.store_byte.Goals as goal

none_there : {X : Type 0} (o : Option X) → is_some o ≡ false → o ≡ None
none_there None e = refl
none_there (Some x) e = cc

pub returns-then-contains_key-clause-memory : goal.returns-then-contains_key-clause-memory
returns-then-contains_key-clause-memory c =
    inserted c.args.self.now.bytes.entries c.insert.new.self.entries c.args.address c.args.byte
    c.in_ok-held.ensures.updates.0

pub returns-then-contains_key-clause-since : goal.returns-then-contains_key-clause-since
returns-then-contains_key-clause-since c =
    let is = inserted c.args.self.now.bytes.entries c.insert.new.self.entries c.args.address c.args.byte
    c.in_ok-held.ensures.updates.0 in
    written_again _ _ _ _ is c.args.self.now.before.entries (sym c.contains_key.ensures ∙ c.if-contains_key.true)

pub returns-clause-memory : goal.returns-clause-memory
returns-clause-memory c =
    inserted c.args.self.now.bytes.entries c.insert.new.self.entries c.args.address c.args.byte
    c.in_ok-held.ensures.updates.0

pub returns-clause-since : goal.returns-clause-since
returns-clause-since c =
    let old = c.args.self.now in
    let is = inserted old.bytes.entries c.insert.new.self.entries c.args.address c.args.byte
    c.in_ok-held.ensures.updates.0 in
    written_first _ _ _ _ is old.before.entries c.insert-2.new.self.entries c.in_ok-held.held
    c.in_ok-insert.ensures.was_ordered c.in_ok-insert.ensures.ordered
    (c.in_ok-held.ensures.old ∙ sym (found old.bytes.entries c.args.address))
    (none_there _ (sym c.contains_key.ensures ∙ c.if-contains_key.false)) c.in_ok-insert.ensures.updates.0
