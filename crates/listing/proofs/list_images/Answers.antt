-- `listing::list_images` meets its contract: for a request in range `enumerate` refuses nothing, and the header says its count.
use native.Mathlib.Omega.{arith}
use Rattle.std.proofs.Common.{◌≡◌, length}
use mathlib.Core.Path.{sym, ◌∙◌}
use lib.Seq.{length-take-le}
use Rattle.listing.proofs.Answering.{found, found_area, listed_head}
use Rattle.listing.specs.Printed.{images_of}
use Rattle.listing.proofs.list_images.Goals as goal

pub slice_bounds-enumerate-end : goal.slice_bounds-enumerate-end
slice_bounds-enumerate-end c = let k = c.put_on.auto in sym (length-take-le _ _ (omega arith))

pub returns-in-Some : goal.returns-in-Some
returns-in-Some c =
    let a = c.args in
    let h = c.requires in
    let f = found a.planes a.order a.mask c.put_on.new.on a.records.now h.0 h.1 h.2 c.put_on.ensures in
    let g = found_area a.planes a.order a.mask c.put_on.new.on a.records.now h.0 h.1 h.2 c.put_on.ensures in
    let total = c.in-Some.total in
    let e : total ≡ length (images_of a.planes a.order a.mask) = cc (c.enumerate-found.ensures.0, f) in
    listed_head a.planes a.order a.mask a.records.now a.out.now total c.put_header.result c.enumerate-found.new.area c.put_header.new.out
    e h.3 c.put_header.ensures (c.enumerate-found.ensures.1 ∙ g)

pub returns-in-None : goal.returns-in-None
returns-in-None c =
    let a = c.args in
    let h = c.requires in
    let f = found a.planes a.order a.mask c.put_on.new.on a.records.now h.0 h.1 h.2 c.put_on.ensures in
    cc (c.enumerate-found.ensures.0, f)
