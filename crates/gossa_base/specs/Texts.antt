-- Texts of lists, ids, names, words and bytes.
use Rattle.std.specs.Prelude.{ℕ, false, List, ◌++◌, codes, decimal, if◌then◌else◌}
use Rattle.std.specs.Fmt.{digits}
use Rattle.std.specs.List.{flat_map}
use Rattle.hex.specs.Hex.{encode_lower}
use Rattle.gossa_base.specs.declared.ids.ValueId.{ValueId}
use Rattle.gossa_base.specs.declared.ids.BlockId.{BlockId}

-- each text behind these bytes
abbrev pub led : {T : Type 0} → List ℕ → (T → List ℕ) → List T → List ℕ
led lead text items = flat_map (λ item. lead ++ text item) items

-- a value's name, as v7
abbrev pub value_text : ValueId → List ℕ
value_text v = codes "v" ++ decimal v.0

-- a block's name, as b7, or e7 where it stands on a split edge
abbrev pub block_text : BlockId → List ℕ
block_text b = (if b.split then codes "e" else codes "b") ++ decimal b.n

-- a word, as 0x1f: lower-case digits without leading zeros
abbrev pub hex_text : ℕ → List ℕ
hex_text w = codes "0x" ++ digits 16 false w

-- bytes, two lower-case digits for each
abbrev pub hex_bytes_text : List ℕ → List ℕ
hex_bytes_text bytes = encode_lower bytes
