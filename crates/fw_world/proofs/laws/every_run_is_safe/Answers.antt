use Rattle.fw_world.proofs.Kept as kept
use Rattle.fw_world.proofs.laws.every_run_is_safe.Goals as goal

pub returns : goal.returns
returns c =
    let safe = kept.every_run_is_safe c.joined_size.ensures c.one_name.ensures c.spelling_size.ensures c.one_request.ensures c.tells_running.ensures in
    record {
      initiates = λ opening w events o run. (safe opening w events o run).initiates;
      names = λ opening w events o run. (safe opening w events o run).names;
      goals = λ opening w events o run. (safe opening w events o run).goals;
      activations = λ opening w events o run. (safe opening w events o run).activations;
      equal = kept.every_run_is_equal c.joined_size.ensures c.one_name.ensures c.spelling_size.ensures c.one_request.ensures c.tells_running.ensures;
      releases = λ opening w events o run. (safe opening w events o run).releases;
      safe = kept.every_run_is_safe_on c.joined_size.ensures c.one_name.ensures c.spelling_size.ensures c.one_request.ensures c.tells_running.ensures;
    }
