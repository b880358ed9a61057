-- A page of n by n pixels kept as bits: rows of whole bytes, the top row first, the leftmost pixel in a byte's high bit.
use Rattle.std.specs.Prelude.{◌≡◌, ℕ, ◌+◌, ◌-◌, ◌*◌, ◌/◌, ◌%◌, ◌^◌, ◌<◌, ◌≤◌, Bool, false, ◌&&◌, ◌||◌, List, length, ℤ, pos, None, ◌==◌, bit_or, nat_lt, slice_index, slice_set, unsigned_abs}
use Rattle.mark.specs.Covers.{on_sheet}
use Rattle.sheet.specs.Meanings.{Meaning}

-- how many bytes a row has: n / 8, rounded up
abbrev pub row_bytes : ℕ → ℕ
row_bytes n = (n + 7) / 8

-- how many bytes the page has
abbrev pub page_bytes : ℕ → ℕ
page_bytes n = row_bytes n * n

-- the bit of a byte at place k from the left
abbrev pub bit_of : ℕ → ℕ → Bool
bit_of b k = b / 2 ^ (7 - k) % 2 == 1

-- the byte with the bit at place k from the left set
abbrev pub with_bit : ℕ → ℕ → ℕ
with_bit b k = bit_or b (2 ^ (7 - k))

-- the bit at column c, row r
abbrev pub bit_at : ℕ → List ℕ → ℕ → ℕ → Bool
bit_at n bytes c r = bit_of (slice_index bytes (r * row_bytes n + c / 8)) (c % 8)

-- the pixel z is inked
abbrev pub inked_at : ℕ → List ℕ → ℤ × ℤ → Bool
inked_at n bytes z = on_sheet n z && bit_at n bytes (unsigned_abs z.0) (unsigned_abs z.1)

-- which byte has the bit of the pixel z
abbrev pub byte_of : ℕ → ℤ × ℤ → ℕ
byte_of n z = unsigned_abs z.1 * row_bytes n + unsigned_abs z.0 / 8

-- the bytes with the bit of the pixel z set
abbrev pub with_pixel : ℕ → List ℕ → ℤ × ℤ → List ℕ
with_pixel n bytes z = slice_set bytes (byte_of n z) (with_bit (slice_index bytes (byte_of n z)) (unsigned_abs z.0 % 8))

-- besides what was inked before, the pixels of `more` that are on the sheet are inked after
abbrev pub Gained : ℕ → List ℕ → List ℕ → (ℤ × ℤ → Bool) → Type 0
Gained n before after more = (w : ℤ × ℤ) → inked_at n after w ≡ (inked_at n before w || (on_sheet n w && more w))

-- column c of row r is a spare bit: past the row's pixels, in its last byte
abbrev pub Spare : ℕ → ℕ → ℕ → Type 0
Spare n c r = (r < n) × (n ≤ c) × (c < 8 * row_bytes n)

-- the spare bits are 0
abbrev pub Clean : ℕ → List ℕ → Type 0
Clean n bytes = (c r : ℕ) → Spare n c r → bit_at n bytes c r ≡ false

-- what a page of bits means: it has no stock
abbrev pub bit_meaning : ℕ → List ℕ → Meaning
bit_meaning n bytes = record { side = n; inked = inked_at n bytes; stock = None; full = None }

-- every bit of the bytes: at column c, row r it is 1 where c is a column of the page and the pixel there is inked
abbrev pub Holds : ℕ → List ℕ → (ℤ × ℤ → Bool) → Type 0
Holds n bytes inked = (length bytes ≡ page_bytes n) × ((c r : ℕ) → c < 8 * row_bytes n → r < n → bit_at n bytes c r ≡ (nat_lt c n && inked (pos c, pos r)))
