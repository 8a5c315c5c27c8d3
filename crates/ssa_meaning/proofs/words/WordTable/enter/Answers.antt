use Rattle.std.proofs.Common.{ℕ, ◌<◌, length, sym, subst, All}
use Rattle.gossa_base.specs.declared.ids.ValueId.{ValueId}
use Rattle.ssa_ir.specs.declared.func.Value.{Value}
use Rattle.ssa_ir.specs.OpKinds.{is_phi}
use Rattle.ssa_meaning.specs.tables.Running.{words_of, room_of}
use Rattle.ssa_meaning.proofs.WordLemmas.{pairs_below, pairs_entered, word_there}
use Rattle.ssa_meaning.proofs.words.WordTable.enter.Goals as goal

pub put_entering-requires : goal.put_entering-requires
put_entering-requires c =
    subst (λ l. All (λ (p : ValueId × ℕ). p.0.0 < room_of c.take_sources.new.self) l)
    (sym c.in_ok-take_sources.ensures.taken)
    (pairs_below (room_of c.take_sources.new.self) c.args.edge (words_of c.args.self.now) (λ v. is_phi v.op)
    c.args.values.now
    (subst (λ words. All (λ (v : Value). v.id.0 < length words) c.args.values.now)
    (sym c.in_ok-take_sources.ensures.words) c.requires.below))

pub returns-clause-words : goal.returns-clause-words
returns-clause-words c =
    pairs_entered c.args.values.now c.args.edge (words_of c.take_sources.new.self) (words_of c.args.self.now)
    (words_of c.put_entering.new.self)
    c.take_sources.new.self.entering.items c.requires.apart c.in_ok-take_sources.ensures.taken
    (word_there c.take_sources.new.self c.args.self.now c.in_ok-take_sources.ensures.words) c.put_entering.ensures.words
