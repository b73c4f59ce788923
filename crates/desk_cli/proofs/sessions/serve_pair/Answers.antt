use Rattle.std.proofs.Common.{sym, ◌∙◌}
use Rattle.desk_io.specs.Pairing.{lenders_of}
use Rattle.desk_io.proofs.Pairs.{same_source, same_sink}
use Rattle.desk_cli.proofs.Paired.{unpaired}
use Rattle.desk_cli.proofs.sessions.serve_pair.Goals as goal

pub returns-clause-session : goal.returns-clause-session
returns-clause-session g c =
    let pair = c.new-link.result in
    let pair_now = c.session.new.link in
    let source_back = c.input-1.given.1 (sym c.new-link.ensures.same_source ∙ sym (same_source pair pair_now c.session.ensures.lenders)) in
    let sink_back = c.output-1.given.1 (sym c.new-link.ensures.same_sink ∙ sym (same_sink pair pair_now c.session.ensures.lenders)) in
    let told = unpaired c.args.host_key.now (lenders_of pair) (lenders_of pair_now) (g.V.Service.service c.args.service.now) (g.V.Service.service c.session.new.service)
    (g.S.Source.source pair.source.now) (g.S.Source.source pair_now.source.now) (g.T.Sink.sink pair.sink.now) (g.T.Sink.sink pair_now.sink.now)
    (g.C.Clock.moments c.args.clock.now) (g.C.Clock.moments c.session.new.clock) c.session.result c.session.ensures.session in
    rw (source_back, sink_back, sym c.new-link.ensures.source, sym c.new-link.ensures.sink) told

pub returns-clause-read_faults : goal.returns-clause-read_faults
returns-clause-read_faults g c =
    let source_back = c.input-1.given.1 (sym c.new-link.ensures.same_source ∙ sym (same_source c.new-link.result c.session.new.link c.session.ensures.lenders)) in
    rw (source_back, sym c.new-link.ensures.source) c.session.ensures.read_faults

pub returns-clause-write_faults : goal.returns-clause-write_faults
returns-clause-write_faults g c =
    let sink_back = c.output-1.given.1 (sym c.new-link.ensures.same_sink ∙ sym (same_sink c.new-link.result c.session.new.link c.session.ensures.lenders)) in
    rw (sink_back, sym c.new-link.ensures.sink) c.session.ensures.write_faults
