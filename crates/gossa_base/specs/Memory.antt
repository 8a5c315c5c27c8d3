-- Memory: a finite map from addresses to bytes.
use Rattle.std.specs.Prelude.{ℕ, zero, suc, ◌+◌, ◌*◌, ◌/◌, ◌==◌, List, [], ◌∷◌, ◌++◌, unwrap_or, if◌then◌else◌}
use Rattle.std.specs.Ordering.{nat_cmp}
use Rattle.std.specs.FinMap as map
use Rattle.std.specs.FinMap.{FinMap}
use Rattle.gossa_base.specs.Words.{low}

abbrev pub Memory : Type 0
Memory = FinMap nat_cmp ℕ

-- the byte at an address, modulo 2 to the 8; one that was never written is 0
abbrev pub byte_at : Memory → ℕ → ℕ
byte_at m a = low 8 (unwrap_or (map.get m a) 0)

-- bytes written from an address upward, modulo 2 to the 64
abbrev pub write_bytes : Memory → ℕ → List ℕ → Memory
write_bytes m a [] = m
write_bytes m a (b ∷ bytes) = write_bytes (map.insert m (low 64 a) b) (a + 1) bytes

-- pieces of memory, written one after the other
abbrev pub write_pieces : Memory → List (ℕ × List ℕ) → Memory
write_pieces m [] = m
write_pieces m ((a, bytes) ∷ pieces) = write_pieces (write_bytes m a bytes) pieces

-- the number of n bytes at an address, the lowest first
abbrev pub read_number : Memory → ℕ → ℕ → ℕ
read_number m a zero = 0
read_number m a (suc n) = byte_at m (low 64 a) + 256 * read_number m (a + 1) n

-- the n low bytes of a word, the lowest first
abbrev pub bytes_of : ℕ → ℕ → List ℕ
bytes_of w zero = []
bytes_of w (suc n) = low 8 w ∷ bytes_of (w / 256) n

abbrev pub change_at : ℕ → (before now : ℕ) → List (ℕ × ℕ) → List (ℕ × ℕ)
change_at a before now rest = if before == now then rest else ((a, now) ∷ rest)

-- of these addresses, those at which two memories differ, each with its byte now
abbrev pub changes_at : Memory → Memory → List ℕ → List (ℕ × ℕ)
changes_at before now [] = []
changes_at before now (a ∷ addresses) = change_at a (byte_at before a) (byte_at now a) (changes_at before now addresses)

-- every address at which either memory has a byte, ascending
abbrev pub addresses_of : Memory → Memory → List ℕ
addresses_of before now = map.keys (map.from_entries {R = nat_cmp} (map.entries before ++ map.entries now))

-- the bytes that changed, by ascending address
abbrev pub changed : Memory → Memory → List (ℕ × ℕ)
changed before now = changes_at before now (addresses_of before now)
