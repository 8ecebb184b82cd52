use Rattle.command_line.proofs.InfoTexts.{asks_for_no_info, single_without_info}
use Rattle.command_line.proofs.help.info_request.Goals as goal

pub returns-in_default-text : goal.returns-in_default-text
returns-in_default-text c =
    let w = c.in_default-text in
    let none = asks_for_no_info c.text.result.now w.not-text w.not-text-2 w.not-text-3 w.not-text-4 in
    single_without_info c.args.words.now c.word-item.result c.in-len1.len_at_least c.in-len1.len_below c.word-item.is
    (rw (← c.text.ensures) none)
