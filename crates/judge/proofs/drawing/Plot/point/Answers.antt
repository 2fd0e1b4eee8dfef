-- One arrow more.
use Rattle.sheet.specs.Views.{table_of}
use Rattle.judge.specs.Tables.{words_in}
use Rattle.judge.proofs.Plotting.{plot_set}
use Rattle.judge.proofs.drawing.Plot.point.Goals as goal

pub returns-in-Some : goal.returns-in-Some
returns-in-Some c =
    let led = c.in-Some.ensures in
    let plot = c.args.self.now in
    record {
      held =
          plot_set plot.plan.now (words_in plot.table.now) plot.table.now.size c.args.row c.args.letter c.in-Some.entry (table_of c.args.sheet.now) (table_of c.set_arrow.new.self) c.set_arrow.result
          c.requires.plotted c.requires.entry c.requires.spelt led.inside c.set_arrow.ensures.answer c.set_arrow.ensures.held led.answer;
    }
