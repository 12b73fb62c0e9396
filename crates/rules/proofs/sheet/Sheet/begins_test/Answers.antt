use Rattle.std.proofs.Common.{sym, ap, ◌∙◌}
use Rattle.rules.specs.Sheets.{held}
use Rattle.rules.specs.Written.{begins_test}
use Rattle.rules.proofs.Parts.{test_begun, test_stands}
use Rattle.rules.proofs.Sheets.{sheet_writes}
use Rattle.rules.proofs.sheet.Sheet.begins_test.Goals as goal

pub returns : goal.returns
returns c =
    let sheet = c.args.self.now in
    let same = c.is_test_at.ensures ∙ ap (λ rs. begins_test rs c.args.row) c.rows.ensures in
    record {
      same = same;
      whole = λ e. test_stands (held sheet).1 _ (sheet_writes sheet) c.args.row (sym same ∙ e);
      only = λ t b. same ∙ test_begun (held sheet).1 t c.args.row b;
    }
