use Rattle.std.proofs.Common.{◌≡◌, ◌+◌, arith}
use Rattle.rules.specs.Sheets.{held}
use Rattle.rules.specs.Written.{start_of}
use Rattle.rules.proofs.Extents.{start_next, start_more, start_within}
use Rattle.rules.proofs.Sheets.{sheet_writes}
use Rattle.rules.proofs.sheet.Sheet.behind.Goals as goal

pub returns : goal.returns
returns c =
    let sheet = c.args.self.now in
    let rule = c.args.rule in
    let writes = sheet_writes sheet in
    let next : c.unwrap_or.result ≡ start_of (held sheet).1 (rule + 1) = rw (c.unwrap_or.ensures, c.get.ensures, c.len.ensures, sheet.begun (rule + 1)) (start_next _ _ writes rule c.requires) in
    record {
      next = next;
      onward = let more = start_more _ _ writes rule c.requires in omega arith;
      within = let most = start_within _ _ writes rule c.requires in omega arith;
    }
