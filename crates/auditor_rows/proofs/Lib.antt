mod WorkedMeeting
mod StillVessels
