-- `planes_groups::start_group` meets its contract: the seed marked and appended (`queue_push`), and its group grown (`seed_grown`).
use mathlib.Core.Path.{◌∙◌}
use native.Mathlib.Omega.{arith}
use lib.ListN.{length-set}
use Rattle.planes_groups.specs.Rows.{takes_in}
use Rattle.planes_groups.proofs.Queueing.{queue_room, queue_push}
use Rattle.planes_groups.proofs.Breadth.{seed_grown}
use Rattle.planes_groups.proofs.start_group.Goals as goal

pub offset_bounds-assigned-at : goal.offset_bounds-assigned-at
offset_bounds-assigned-at c =
    let w = c.requires.queue.column in omega (arith, w, c.requires.seed_lt_np.0)

pub bounds-assigned-at : goal.bounds-assigned-at
bounds-assigned-at c =
    let w = c.requires.queue.column in omega (arith, w, c.requires.seed_lt_np.0)

pub offset_bounds-queue-from : goal.offset_bounds-queue-from
offset_bounds-queue-from c =
    let w = c.requires.queue.room in let r = queue_room c.args.np c.args.mark c.requires.seed_lt_np.1 c.args.assigned.now c.args.queue.now c.args.from c.args.seed c.requires.queue c.requires.seed_lt_np.0 c.requires.seed_value in omega (arith, w, r)

pub bounds-queue-from : goal.bounds-queue-from
bounds-queue-from c =
    let w = c.requires.queue.room in let r = queue_room c.args.np c.args.mark c.requires.seed_lt_np.1 c.args.assigned.now c.args.queue.now c.args.from c.args.seed c.requires.queue c.requires.seed_lt_np.0 c.requires.seed_value in omega (arith, w, r)

pub overflow_add-from : goal.overflow_add-from
overflow_add-from c =
    let r = queue_room c.args.np c.args.mark c.requires.seed_lt_np.1 c.args.assigned.now c.args.queue.now c.args.from c.args.seed c.requires.queue c.requires.seed_lt_np.0 c.requires.seed_value in omega (arith, r)

pub grow-requires : goal.grow-requires
grow-requires c = record {
  n_in_bounds = c.requires.n_in_bounds;
  np_in_bounds = c.requires.np_in_bounds;
  table = c.requires.table;
  seed_lt_np = c.requires.seed_lt_np;
  table_2 = c.requires.table_2;
  from_le_to = omega arith;
  queue = queue_push c.args.np c.args.mark c.requires.seed_lt_np.1 c.args.assigned.now c.args.queue.now c.args.from c.args.seed c.requires.queue c.requires.seed_lt_np.0 c.requires.seed_value;
}

pub shape_of-assigned : goal.shape_of-assigned
shape_of-assigned c =
    c.grow.auto.assigned ∙ length-set c.args.assigned.now c.args.seed c.args.mark

pub shape_of-queue : goal.shape_of-queue
shape_of-queue c =
    c.grow.auto.queue ∙ length-set c.args.queue.now c.args.from c.args.seed

pub returns : goal.returns
returns c = record {
  lower_bound = omega (arith, c.grow.ensures.lower_bound);
  queue_2 = c.grow.ensures.queue_2;
  by_index = λ adj rows.
      seed_grown c.args.np adj (takes_in c.args.triangles.now c.args.handles.now c.args.n c.args.rows.now c.args.tsorted.now c.args.tstarts.now c.args.least c.args.most c.args.seed) c.args.mark c.requires.seed_lt_np.1 c.args.assigned.now c.args.queue.now c.args.from c.args.seed
      c.requires.queue c.requires.seed_lt_np.0 c.requires.seed_value
      c.grow.new.assigned c.grow.new.queue c.grow.result (c.grow.ensures.by_index adj rows);
}
