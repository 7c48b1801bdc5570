use Rattle.words.proofs.Arrays.{filled_end, filled_told}
use Rattle.restrictive.proofs.search.Search.put_offers.Goals as goal

pub returns-in-Some : goal.returns-in-Some
returns-in-Some c =
    let made = filled_end c.args.self.now.sound.sized c.gather_over.ensures in
    let offered = rw c.in-Some.is at c.requires.offered_silently in
    filled_told made (offered _ c.requires.event_bound _ c.gather_over.new.out c.look_up-in-Some.ensures.words made.words)
