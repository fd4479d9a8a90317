use Rattle.fw_air.proofs.Runs.{on_ok}
use Rattle.fw_air.proofs.rounds.link_round.Goals as goal

pub returns-clause-made : goal.returns-clause-made
returns-clause-made g c =
    on_ok c.turn.result _ _
    (λ turns. record {
      one = c.begin.new.self;
      two = c.pass.new.self;
      three = c.pass-2.new.self;
      opened = c.begin.new.link;
      answered = c.pass.new.link;
      sent = c.in_ok-sent.sent;
      replies = c.in_ok-replies.replies;
      others = c.in_ok-pass.field-0;
      begins = c.in_ok-sent.ensures.begun;
      first_pass = c.in_ok-replies.ensures.passed;
      second_pass = c.in_ok-pass.ensures.passed;
      turns = turns;
    })
    c.turn.ensures.turned
