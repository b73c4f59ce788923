use Rattle.auction_page.proofs.page.say_page.Goals as goal

pub send_page-requires-clause-each : goal.send_page-requires-clause-each
send_page-requires-clause-each g c = rw (c.as_slice-2.ensures.value, ← c.as_slice.ensures.value) c.page_of-page.ensures.each
