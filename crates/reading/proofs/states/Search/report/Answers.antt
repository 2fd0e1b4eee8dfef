-- `report`: the fetches, wherever the search stands.
use Rattle.reading.proofs.Answering.{thrift_is}
use Rattle.reading.proofs.states.Search.report.Goals as goal

pub returns-clause-thrift : goal.returns-clause-thrift
returns-clause-thrift g c answers s lines long =
    thrift_is c.args.self.now (g.met.T.Trace.lawful c.args.self.now.reading.trace) s lines long
