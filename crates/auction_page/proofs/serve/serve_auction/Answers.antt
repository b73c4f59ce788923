use Rattle.std.proofs.Common.{refl, subst, inr, Ok, Err}
use Rattle.auction_page.specs.Ending.{auction_value, EndsBy}
use Rattle.printouts.specs.Printout.{fault_printout}
use Rattle.auction_page.specs.PageText.{page_printout}
use Rattle.printouts.proofs.Statuses.{fault_status-not_0, nothing-written, written-not_0}
use Rattle.auction_page.proofs.Judged.{some_judged}
use Rattle.auction_page.proofs.serve.serve_auction.Goals as goal

pub returns-in-Ok-clause-served : goal.returns-in-Ok-clause-served
returns-in-Ok-clause-served g c = record {
  printout = page_printout (auction_value c.in-Ok.auction);
  judged = inr (record { spelled = Ok (auction_value c.in-Ok.auction); is = refl; bytes_spell = c.in-Ok.ensures.spelled });
  said = c.say_page.ensures.written;
}

pub returns-in-Err-Fault-clause-served : goal.returns-in-Err-Fault-clause-served
returns-in-Err-Fault-clause-served g c =
    let ended = subst (EndsBy (g.S.Source.source c.args.input.now).left (g.S.Source.source c.read_auction.new.input).left) c.in-Err-Fault.field-0-is c.in-Err-Fault.ensures.ended in
    record {
      printout = fault_printout c.in-Err-Fault.fault;
      judged = inr (record { spelled = Err c.in-Err-Fault.fault; is = refl; bytes_spell = ended });
      said = c.say_fault.ensures.written;
    }

pub returns-in-Err-Fault-clause-all_read : goal.returns-in-Err-Fault-clause-all_read
returns-in-Err-Fault-clause-all_read g c =
    λ zero. absurd (written-not_0 _ _ (fault_printout c.in-Err-Fault.fault) _ (fault_status-not_0 c.in-Err-Fault.fault) c.say_fault.ensures.written zero)

pub returns-in-Err-NoMemory-clause-served : goal.returns-in-Err-NoMemory-clause-served
returns-in-Err-NoMemory-clause-served g c =
    let judged = some_judged (g.S.Source.source c.args.input.now) in
    record {
      printout = judged.0;
      judged = inr judged.1;
      said = inr (record { answered = refl; nothing = nothing-written (g.T.Sink.sink c.args.output.now) });
    }
