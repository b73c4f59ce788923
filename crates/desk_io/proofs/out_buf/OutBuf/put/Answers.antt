use Rattle.desk_io.proofs.Putting.{puts_flushed, puts_unflushed, puts_sent}
use Rattle.desk_io.proofs.out_buf.OutBuf.put.Goals as goal

pub returns-in_err-flush-clause-puts : goal.returns-in_err-flush-clause-puts
returns-in_err-flush-clause-puts g c = puts_unflushed c.in_err-flush.ensures.flushes c.from_residual.ensures.0

pub returns-clause-puts : goal.returns-clause-puts
returns-clause-puts g c =
    let flushes = c.in_ok-flush.ensures.flushes in
    puts_flushed flushes (puts_sent flushes.empty c.write_all.ensures.sends)
