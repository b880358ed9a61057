use Rattle.parsing.proofs.tail.coded_tail.Goals as goal

pub returns-in_ok-name-in-128-clause-stands : goal.returns-in_ok-name-in-128-clause-stands
returns-in_ok-name-in-128-clause-stands c = c.tail_end-in-128.ensures.stands c.args.at c.in_ok-name-in-128.ensures.stands

pub returns-in_ok-name-in-192-clause-stands : goal.returns-in_ok-name-in-192-clause-stands
returns-in_ok-name-in-192-clause-stands c = c.tail_at-in-192.ensures.stands c.args.at c.in_ok-name-in-192.ensures.stands
