use Rattle.sheets.proofs.OneSheet.{one_sheet}
use Rattle.sheets.proofs.theorems.a_text_means_one_sheet.Goals as goal

pub returns : goal.returns
returns c = one_sheet
