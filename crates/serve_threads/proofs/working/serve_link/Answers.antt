use Rattle.std.proofs.Common.{arith}
use Rattle.serve_threads.proofs.Sessions.{few_messages}
use Rattle.serve_threads.proofs.working.serve_link.Goals as goal

pub overflow_add-worker-2 : goal.overflow_add-worker-2
overflow_add-worker-2 g c =
    let few = few_messages c.args.host_key.now _ _ c.session-held.result c.session-held.ensures.session in
    let sessions = c.requires.few in
    let messages = c.requires.messages in
    omega (arith, few, sessions, messages)
