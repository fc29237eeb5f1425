use Rattle.fx_text.proofs.AheadLaws.{went_one, went_two, went_second_of_two, went_three, went_second_of_three, went_third_of_three}
use Rattle.fx_text.proofs.reader.Reader.go_on.Goals as goal

pub returns-in-One : goal.returns-in-One
returns-in-One c = went_one _ _ _ _ c.requires _ c.in-One.is

pub returns-in-Two : goal.returns-in-Two
returns-in-Two c = went_two _ _ _ _ c.requires _ _ c.in-Two.is

pub returns-in-SecondOfTwo : goal.returns-in-SecondOfTwo
returns-in-SecondOfTwo c = went_second_of_two _ _ _ _ c.requires _ _ c.in-SecondOfTwo.is

pub returns-in-Three : goal.returns-in-Three
returns-in-Three c = went_three _ _ _ _ c.requires _ _ _ c.in-Three.is

pub returns-in-SecondOfThree : goal.returns-in-SecondOfThree
returns-in-SecondOfThree c = went_second_of_three _ _ _ _ c.requires _ _ _ c.in-SecondOfThree.is

pub returns-in-ThirdOfThree : goal.returns-in-ThirdOfThree
returns-in-ThirdOfThree c = went_third_of_three _ _ _ _ c.requires _ _ _ c.in-ThirdOfThree.is
