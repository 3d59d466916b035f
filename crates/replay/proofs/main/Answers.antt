use Rattle.report.proofs.Giving.{reported, reported_part}
use Rattle.replay.proofs.main.Goals as goal

pub slice_bounds-out-end : goal.slice_bounds-out-end
slice_bounds-out-end c = reported c.report-answer.ensures c.count-written.ensures

pub slice_bounds-write_all-end : goal.slice_bounds-write_all-end
slice_bounds-write_all-end c = reported_part c.report-answer.ensures c.count-written.ensures
