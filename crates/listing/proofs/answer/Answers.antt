-- `listing::answer` meets its contract: by its two tests of room, and by what the text asks for.
use native.Mathlib.Omega.{arith}
use mathlib.Core.Path.{sym, ◌∙◌}
use Rattle.listing.proofs.Answering.{none_records, none_out, answered_images, answered_refused, request_few}
use Rattle.listing.proofs.answer.Goals as goal
use Rattle.listing.proofs.answer.Goals.{then-records-lt-RECORDS-via-then-records-lt-RECORDS, then-records-lt-RECORDS-via-else-records-lt-RECORDS+then-out-lt-HEADER}

pub returns-then-records-lt-RECORDS : goal.returns-then-records-lt-RECORDS
returns-then-records-lt-RECORDS c =
    let a = c.args in
    elim c.then-records-lt-RECORDS.branch [
      | then-records-lt-RECORDS-via-then-records-lt-RECORDS w ↦ none_records a.text.now a.records.now a.out.now w.if-records-lt-RECORDS.true
      | then-records-lt-RECORDS-via-else-records-lt-RECORDS+then-out-lt-HEADER w ↦ none_out a.text.now a.records.now a.out.now w.if-out-lt-HEADER.true
    ]

pub list_images-requires : goal.list_images-requires
list_images-requires c =
    let a = c.args in
    let q = c.in-Some.r in
    let r = request_few a.text.now q.planes q.order q.mask (sym c.read_request.ensures ∙ c.in-Some.is) in
    (r.0, r.1, omega arith, omega arith)

pub returns-in-Some : goal.returns-in-Some
returns-in-Some c =
    let a = c.args in
    let q = c.in-Some.r in
    answered_images a.text.now a.records.now a.out.now c.if-records-lt-RECORDS.false c.if-out-lt-HEADER.false q.planes q.order q.mask
    c.list_images.result c.list_images.new.records c.list_images.new.out
    (sym c.read_request.ensures ∙ c.in-Some.is) c.list_images.ensures

pub returns-in-None : goal.returns-in-None
returns-in-None c =
    let a = c.args in
    answered_refused a.text.now a.records.now a.out.now c.if-records-lt-RECORDS.false c.if-out-lt-HEADER.false c.put_bytes.result c.put_bytes.new.out
    (sym c.read_request.ensures ∙ c.in-None.is) c.put_bytes.ensures
