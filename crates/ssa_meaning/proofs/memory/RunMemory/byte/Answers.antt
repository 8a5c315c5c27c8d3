use Rattle.std.proofs.Common.{◌≡◌, ◌<◌, None, Some, sym, ap, ◌∙◌, arith, option_copied}
use Rattle.gossa_base.specs.Words.{low}
use Rattle.ssa_meaning.proofs.MemoryLemmas.{byte_found}
use Rattle.ssa_meaning.proofs.memory.RunMemory.byte.Goals as goal

pub returns-in-Some : goal.returns-in-Some
returns-in-Some c =
    let small : c.in-Some.byte.now < 256 = omega arith in
    let low_is : c.in-Some.byte.now ≡ low 8 c.in-Some.byte.now = omega (arith, small) in
    low_is
    ∙ byte_found c.args.self.now.bytes.entries c.args.address (Some c.in-Some.byte.now)
    (ap option_copied (sym c.in-Some.is) ∙ c.get.ensures.value)

pub returns-in-None : goal.returns-in-None
returns-in-None c =
    byte_found c.args.self.now.bytes.entries c.args.address None
    (ap option_copied (sym c.in-None.is) ∙ c.get.ensures.value)
