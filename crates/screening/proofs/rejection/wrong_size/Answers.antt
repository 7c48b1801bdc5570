use Rattle.std.proofs.Common.{◌≤◌}
use Rattle.part.specs.Format.{max_states, max_events}
use Rattle.screening.proofs.Rejections.{ranged}
use Rattle.screening.proofs.rejection.wrong_size.Goals as goal

pub body_size-requires : goal.body_size-requires
body_size-requires c =
    let within = ranged _ c.requires.in_range in
    let states : c.counts.result.states ≤ max_states = rw c.counts.ensures.value within.most_states in
    let events : c.counts.result.events ≤ max_events = rw c.counts.ensures.value within.most_events in
    record {
      most_listed = c.counts.ensures.below_256.0;
      most_columns = c.counts.ensures.below_256.1;
      most_states = states;
      most_events = events;
    }
