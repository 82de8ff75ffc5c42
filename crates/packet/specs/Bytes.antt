-- The bytes of a packet, and what bytes are read as.
use Rattle.std.specs.Prelude.{ℕ, zero, suc, ◌+◌, ◌*◌, ◌/◌, ◌%◌, Bool, cond, ◌&&◌, List, [], ◌∷◌, ◌++◌, length, get_or, drop, leb, eqb}
use Rattle.packet.specs.Limits.{bands, count_bytes, head_bytes, fixed_bytes}
use Rattle.packet.specs.Tap.{Tap}

-- ---- taps to bytes

-- "Integers and float bits are little endian": a number as k bytes
abbrev pub little_endian : ℕ → ℕ → List ℕ
little_endian zero n = []
little_endian (suc k) n = n % 256 ∷ little_endian k (n / 256)

-- "(4)": a number or a float's bits as four bytes
abbrev pub word : ℕ → List ℕ
word n = little_endian 4 n

-- "and 4 bytes for each band whose bit stands", the lowest bit of m being that of the first gain
unfoldable pub gain_bytes : ℕ → List ℕ → List ℕ
gain_bytes m [] = []
gain_bytes m (g ∷ gs) = cond (eqb (m % 2) 1) (word g) [] ++ gain_bytes (m / 2) gs

-- "per tap a bit map first (bit k is band k), order (1), number (4), direction (12), delay (4)", then the gains
abbrev pub tap_bytes : Tap → List ℕ
tap_bytes t =
    t.bits ∷ t.order ∷ word t.number ++ (word t.x ++ (word t.y ++ (word t.z ++ (word t.delay ++ gain_bytes t.bits t.gains))))

-- The bytes of taps, one tap after the other
unfoldable pub taps_bytes : List Tap → List ℕ
taps_bytes [] = []
taps_bytes (t ∷ ts) = tap_bytes t ++ taps_bytes ts

-- "Count (1 byte), images (4), rays (4); then per tap ..", "the packet's count becomes two bytes" (document 02, Note 7): the packet of taps
abbrev pub encode : ℕ → ℕ → List Tap → List ℕ
encode images rays ts = little_endian count_bytes (length ts) ++ (word images ++ (word rays ++ taps_bytes ts))

-- ---- bytes to taps

-- "Integers and float bits are little endian": the number that the first k bytes are
abbrev pub value_of : ℕ → List ℕ → ℕ
value_of zero bs = 0
value_of (suc k) bs = get_or bs 0 0 + 256 * value_of k (drop 1 bs)

-- The number that the first four bytes are
abbrev pub word_of : List ℕ → ℕ
word_of bs = value_of 4 bs

-- How many of the lowest k bits of m stand
unfoldable pub ones : ℕ → ℕ → ℕ
ones zero m = 0
ones (suc k) m = m % 2 + ones k (m / 2)

-- "4 bytes for each band whose bit stands": the length of a tap whose bit map is m
abbrev pub size_of_tap : ℕ → ℕ
size_of_tap m = fixed_bytes + 4 * ones bands m

-- "A zero gain has no bit and is read as +0": the gain at the front, whose bit is the lowest of m
abbrev pub gain_in : ℕ → List ℕ → ℕ
gain_in m bs = cond (eqb (m % 2) 1) (word_of bs) 0

-- The gains of k bands, from the bytes of those whose bits stand in m
unfoldable pub gains_in : ℕ → ℕ → List ℕ → List ℕ
gains_in zero m bs = []
gains_in (suc k) m bs = gain_in m bs ∷ gains_in k (m / 2) (drop (m % 2 * 4) bs)

-- The tap at the front
unfoldable pub tap_in : List ℕ → Tap
tap_in bs = record {
  bits = get_or bs 0 0;
  order = get_or bs 1 0;
  number = word_of (drop 2 bs);
  x = word_of (drop 6 bs);
  y = word_of (drop 10 bs);
  z = word_of (drop 14 bs);
  delay = word_of (drop 18 bs);
  gains = gains_in bands (get_or bs 0 0) (drop fixed_bytes bs);
}

-- The first n taps
unfoldable pub taps_in : ℕ → List ℕ → List Tap
taps_in zero bs = []
taps_in (suc n) bs = tap_in bs ∷ taps_in n (drop (size_of_tap (get_or bs 0 0)) bs)

-- "the bytes end early or go on after the last tap": they do neither, being n taps and no more
unfoldable pub has_only_taps : ℕ → List ℕ → Bool
has_only_taps zero bs = eqb (length bs) 0
has_only_taps (suc n) bs = leb (size_of_tap (get_or bs 0 0)) (length bs) && has_only_taps n (drop (size_of_tap (get_or bs 0 0)) bs)

-- "the packet's count becomes two bytes"
abbrev pub count_in : List ℕ → ℕ
count_in bs = value_of count_bytes bs

-- "images (4)"
abbrev pub images_in : List ℕ → ℕ
images_in bs = word_of (drop count_bytes bs)

-- "rays (4)"
abbrev pub rays_in : List ℕ → ℕ
rays_in bs = word_of (drop (count_bytes + 4) bs)

-- The taps of a packet
abbrev pub decode : List ℕ → List Tap
decode bs = taps_in (count_in bs) (drop head_bytes bs)
