-- The round trips, and that reader and writer agree, as theorems on the definitions:
--     written_read             what the writer accepts is read back as those taps, a gain of −0 as +0
--     read_written             what the reader accepts is written again as the same bytes
--     same_refusal             taps that bytes can hold: the reader answers their packet by the refusal by which the writer answers the taps
--     reader_accepts_written   so the reader accepts what the writer gives
--     writer_accepts_read      and the writer accepts the taps that the reader gives
use Prim.Native.Nat.{ℕ, ◌*◌, ◌^◌, ◌≤◌, ◌<◌}
use mathlib.Core.Path.{◌≡◌, sym, ap, ◌∙◌}
use mathlib.Core.Bool.{true, ◌&&◌}
use mathlib.Core.List.{List, [], ◌++◌, map}
use native.Mathlib.Omega.{arith}
use lib.ListN.{length, drop, length-append, length-drop}
use lib.Dec.{leb}
use borrow.Author.Tests.{le-leb, leb-true}
use Rattle.std.specs.Prelude.{None, Ok}
use Rattle.packet.specs.Limits.{most_taps, count_bytes, head_bytes, tap_words, area_words, out_bytes}
use Rattle.packet.specs.Tap.{Tap, taps_of, all_words, tap_read_back}
use Rattle.packet.specs.Bytes.{little_endian, encode, taps_bytes, taps_in, has_only_taps, count_in, images_in, rays_in, decode}
use Rattle.packet.specs.Refusals.{first_failed, tests}
use Rattle.packet.specs.Reader.{whole, refused_read, head, read_answer, read_area}
use Rattle.packet.specs.Writer.{refused_write, packet, write_answer, write_out}
use Rattle.packet.proofs.Runs.{and_both}
use Rattle.packet.proofs.Areas.{taps_length}
use Rattle.packet.proofs.FromBytes.{read_back}
use Rattle.packet.proofs.Answers.{by_tests, by_tests_write, passed, read_taken, write_taken}
use Rattle.packet.proofs.Back.{Bytes, Words, AllFine, value_back, word_back, taps_round, taps_exact, taps_of_fine, tests_clean, bytes_drop, taps_again, packet_back, accepts_read, accepts_write, valid_floats_lem}

-- ---- written, and read back

module _ (count images rays : ℕ) (a : List ℕ) (w : Words a) (hc : count < 256 ^ count_bytes) (hi : images < 4294967296) (hr : rays < 4294967296) (ha : count * tap_words ≤ length a) where
  fine : AllFine (taps_of count a)
  fine = taps_of_fine count a w ha

  count_back : count_in (packet count images rays a) ≡ count
  count_back =
      let n : length (taps_of count a) ≡ count = taps_length count a in
      ap (λ (k : ℕ). count_in (little_endian count_bytes k ++ [])) n ∙ value_back count_bytes count [] hc

  images_back : images_in (packet count images rays a) ≡ images
  images_back = word_back images [] hi

  rays_back : rays_in (packet count images rays a) ≡ rays
  rays_back = word_back rays [] hr

  -- the taps of the packet are the taps written
  pub taps_back : decode (packet count images rays a) ≡ map tap_read_back (taps_of count a)
  taps_back =
      ap (λ (k : ℕ). taps_in k (taps_bytes (taps_of count a))) (count_back ∙ sym (taps_length count a))
      ∙ taps_round (taps_of count a) fine

  pub packet_whole : whole (packet count images rays a) ≡ true
  packet_whole =
      let l : leb head_bytes (length (packet count images rays a)) ≡ true = le-leb head_bytes (length (packet count images rays a)) (omega arith) in
      λ k. l k && (ap (λ (n : ℕ). has_only_taps n (taps_bytes (taps_of count a))) (count_back ∙ sym (taps_length count a)) ∙ taps_exact (taps_of count a) fine) k

  -- Reader and writer agree on what is acceptable: on areas that are long enough, the reader refuses the packet of any taps by the number by
  -- which the writer refuses those taps, and accepts it where the writer accepts them.
  pub same_refusal : (out t : List ℕ) → area_words ≤ length a → out_bytes ≤ length out → area_words ≤ length t
      → refused_read (packet count images rays a) t ≡ refused_write count images a out
  same_refusal out t la lo lt =
      by_tests (packet count images rays a) t lt packet_whole
      ∙ (λ k. first_failed (tests (count_back k) (images_back k) (taps_back k)))
      ∙ tests_clean count images (taps_of count a) fine
      ∙ sym (by_tests_write count images rays a out la lo)

module _ (count images rays : ℕ) (a out t : List ℕ) (w : Words a) (hi : images < 4294967296) (hr : rays < 4294967296) (e : refused_write count images a out ≡ None) (lt : area_words ≤ length t) where
  few : count ≤ most_taps
  few = (passed count images (taps_of count a) (accepts_write count images a out e).2).0

  hc : count < 256 ^ count_bytes
  hc = let f = few in omega arith

  ha : count * tap_words ≤ length a
  ha = let acc = accepts_write count images a out e in let f = few in omega (arith, acc.0)

  -- The reader accepts what the writer gives.
  pub reader_accepts_written : refused_read (packet count images rays a) t ≡ None
  reader_accepts_written =
      let acc = accepts_write count images a out e in
      same_refusal count images rays a w hc hi hr ha out t acc.0 acc.1 lt ∙ e

  -- What the writer accepts is read back as those taps, a gain of −0 as +0: into any tap area that is long enough.
  pub written_read : (read_answer (packet count images rays a) t ≡ Ok (head count images rays))
      × (read_area (packet count images rays a) t ≡ all_words (map tap_read_back (taps_of count a)) ++ drop (length (all_words (map tap_read_back (taps_of count a)))) t)
  written_read =
      let q = read_taken (packet count images rays a) t reader_accepts_written in
      let n = count_back count images rays a w hc hi hr ha in
      let i = images_back count images rays a w hc hi hr ha in
      let r = rays_back count images rays a w hc hi hr ha in
      let d = taps_back count images rays a w hc hi hr ha in
      (sym q.0 ∙ (λ k. Ok (head (n k) (i k) (r k))), sym q.1 ∙ ap (λ (us : List Tap). all_words us ++ drop (length (all_words us)) t) d)

-- ---- read, and written again

module _ (bs t out : List ℕ) (b : Bytes bs) (e : refused_read bs t ≡ None) (ho : out_bytes ≤ length out) where
  -- the taps that the area then holds are the packet's
  area_taps : (taps_of (count_in bs) (read_area bs t) ≡ decode bs) × (area_words ≤ length (read_area bs t))
  area_taps =
      let acc = accepts_read bs t e in
      let v : List ℕ = all_words (decode bs) in
      let is : v ++ drop (length v) t ≡ read_area bs t = (read_taken bs t e).1 in
      let s = valid_floats_lem (count_in bs) (images_in bs) (decode bs) acc.2 in (
        ap (taps_of (count_in bs)) (sym is) ∙ read_back (count_in bs) (drop head_bytes bs) (drop (length v) t) ∙ taps_again (count_in bs) (drop head_bytes bs) (bytes_drop head_bytes bs b) s,
        rw (← is) (let p = length-append v (drop (length v) t) in let q = length-drop (length v) t in omega (arith, p, q, acc.0)),
      )

  -- The writer accepts the taps that the reader gives.
  pub writer_accepts_read : refused_write (count_in bs) (images_in bs) (read_area bs t) out ≡ None
  writer_accepts_read =
      by_tests_write (count_in bs) (images_in bs) (rays_in bs) (read_area bs t) out area_taps.1 ho
      ∙ ap (λ (us : List Tap). first_failed (tests (count_in bs) (images_in bs) us)) area_taps.0
      ∙ (accepts_read bs t e).2

  -- What the reader accepts is written again, from the tap area that the reader left, as the same bytes.
  pub read_written : (write_answer (count_in bs) (images_in bs) (rays_in bs) (read_area bs t) out ≡ Ok (length bs))
      × (write_out (count_in bs) (images_in bs) (rays_in bs) (read_area bs t) out ≡ bs ++ drop (length bs) out)
  read_written =
      let acc = accepts_read bs t e in
      let w = and_both (leb head_bytes (length bs)) (has_only_taps (count_in bs) (drop head_bytes bs)) acc.1 in
      let q = write_taken (count_in bs) (images_in bs) (rays_in bs) (read_area bs t) out writer_accepts_read in
      let p : packet (count_in bs) (images_in bs) (rays_in bs) (read_area bs t) ≡ bs = ap (encode (images_in bs) (rays_in bs)) area_taps.0 ∙ packet_back bs b (leb-true head_bytes (length bs) w.0) w.1 in
      (sym q.0 ∙ ap (λ (l : List ℕ). Ok (length l)) p, sym q.1 ∙ ap (λ (l : List ℕ). l ++ drop (length l) out) p)
