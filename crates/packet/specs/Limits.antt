-- The limits of a packet and of its areas. Each is named here once, and the laws are stated over these names.
use Rattle.std.specs.Prelude.{ℕ, ◌+◌, ◌*◌}
use Rattle.sequences.specs.Allowed.{most}
-- "an order is not 1 to 8": the highest order
pub use Rattle.sequences.specs.Allowed.{most_order}

-- "The limit becomes 1,024 taps": taps at most
abbrev pub most_taps : ℕ
most_taps = 1024

-- "images exceed 250,000": images at most, which is how many the image search visits at most
abbrev pub most_images : ℕ
most_images = most

-- "bit k is band k": the bands of a tap
abbrev pub bands : ℕ
bands = 8

-- "the packet's count becomes two bytes"
abbrev pub count_bytes : ℕ
count_bytes = 2

-- "images (4), rays (4)", behind the count: the bytes before the first tap
abbrev pub head_bytes : ℕ
head_bytes = count_bytes + 4 + 4

-- "a bit map first .., order (1), number (4), direction (12), delay (4)": the bytes of a tap without its gains
abbrev pub fixed_bytes : ℕ
fixed_bytes = 1 + 1 + 4 + 12 + 4

-- "and 4 bytes for each band whose bit stands": the bytes of a tap whose bits all stand
abbrev pub longest_tap : ℕ
longest_tap = fixed_bytes + 4 * bands

-- "The output area must hold 55,306 bytes": the bytes of the longest packet
abbrev pub out_bytes : ℕ
out_bytes = head_bytes + most_taps * longest_tap

-- The words of a tap in a tap area without its gains: order, number, three of direction, delay
abbrev pub fixed_words : ℕ
fixed_words = 6

-- The words of a tap in a tap area
abbrev pub tap_words : ℕ
tap_words = fixed_words + bands

-- "the reader's tap area 1,024 taps": the words of a tap area
abbrev pub area_words : ℕ
area_words = most_taps * tap_words
