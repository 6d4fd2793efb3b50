use Rattle.poet_cli.proofs.VerdictFacts.{poured_count, poured_does, judged_whole, judged_unread}
use Rattle.poet_cli.proofs.checking.judge_file.Goals as goal

pub tell_verdict-requires : goal.tell_verdict-requires
tell_verdict-requires g c =
    poured_count g.P.Policy.meaning g.M.Preemption.cuts g.S.Supply.sbf c.args.sheet.now c.args.checker c.feed_file.new.eater
    c.requires.fed c.requires.supplied c.in-Ok.ensures.fed.bytes c.in-Ok.ensures.fed.eaten c.finish.result c.finish.ensures.bounded

pub returns-in-Ok : goal.returns-in-Ok
returns-in-Ok g c = record {
  did = judged_whole _ _ _ _ _ _ _ _ c.in-Ok.ensures.fed.bytes c.finish.result c.in-Ok.ensures.fed.reading
      (poured_does g.P.Policy.meaning g.M.Preemption.cuts g.S.Supply.sbf c.args.sheet.now c.args.checker c.feed_file.new.eater
      c.requires.fed c.requires.supplied c.in-Ok.ensures.fed.bytes c.in-Ok.ensures.fed.eaten c.finish.result
      c.finish.ensures.defined c.finish.ensures.judged c.finish.ensures.bounded)
      c.tell_verdict.ensures;
}

pub returns-in-Err : goal.returns-in-Err
returns-in-Err g c = record {
  did = judged_unread _ _ _ _ _ _ _ _ c.in-Err.refusal c.in-Err.ensures.stopped c.in-Err.ensures.no_memory c.tell.ensures;
}
